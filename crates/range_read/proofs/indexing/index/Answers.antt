use Rattle.range_read.proofs.indexing.index.Goals as goal

pub returns-clause-made : goal.returns-clause-made
returns-clause-made g c =
    c.index_by.ensures.made c.args.bytes.now c.in-Ok.ensures.taken c.in-Ok.ensures.version

pub returns-clause-fault : goal.returns-clause-fault
returns-clause-fault g c = λ fault.
    c.index_by.ensures.fault c.args.bytes.now fault c.in-Ok.ensures.taken c.in-Ok.ensures.version

pub returns-clause-spelling : goal.returns-clause-spelling
returns-clause-spelling g c =
    c.index_by.ensures.spelling c.args.bytes.now c.in-Ok.ensures.taken c.in-Ok.ensures.version
