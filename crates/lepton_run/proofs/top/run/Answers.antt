use Rattle.std.proofs.Common.{List, ℕ, map, refl}
use Rattle.std.specs.Prelude.{string_bytes}
use Rattle.lepton_run.specs.Endings.{Notes}
use Rattle.lepton_run.proofs.CallEnds.{accepted_of, answered_of, back_of, chunk_back_of, complete_of, cut_of, indexed_of, migrated_of, outside_of, range_back_of, sampled_of}
use Rattle.lepton_run.proofs.top.run.Goals as goal

pub returns-clause-answered : goal.returns-clause-answered
returns-clause-answered g c =
    answered_of g.K.Sink.held g.K.Sink.faults g.K.Sink.full g.S.Source.left g.S.Source.faults
    g.S.Source.full (map string_bytes c.args.words.now) c.args.source.now
    c.answer-ending.new.source c.args.sink.now c.answer-ending.new.sink
    (λ (line : List ℕ). Notes g.N.Sink.held g.N.Sink.faults g.N.Sink.full c.args.note.now
    c.tell.new.note line) c.answer-ending.result _ refl
    c.answer-ending.ensures.ending c.tell.ensures.notes

pub returns-clause-cut : goal.returns-clause-cut
returns-clause-cut g c =
    cut_of g.K.Sink.held g.K.Sink.faults g.K.Sink.full g.S.Source.left g.S.Source.faults
    g.S.Source.full (map string_bytes c.args.words.now) c.args.source.now
    c.answer-ending.new.source c.args.sink.now c.answer-ending.new.sink
    (λ (line : List ℕ). Notes g.N.Sink.held g.N.Sink.faults g.N.Sink.full c.args.note.now
    c.tell.new.note line) c.answer-ending.result _ refl
    c.answer-ending.ensures.ending

pub returns-clause-complete : goal.returns-clause-complete
returns-clause-complete g c = λ command bytes answer means calm still left wanted.
    complete_of g.K.Sink.held g.K.Sink.faults g.K.Sink.full g.S.Source.left g.S.Source.faults
    g.S.Source.full (map string_bytes c.args.words.now) c.args.source.now
    c.answer-ending.new.source c.args.sink.now c.answer-ending.new.sink
    (λ (line : List ℕ). Notes g.N.Sink.held g.N.Sink.faults g.N.Sink.full c.args.note.now
    c.tell.new.note line) command bytes answer means left wanted c.answer-ending.result
    _ refl c.answer-ending.ensures.ending c.tell.ensures.notes calm still

pub returns-clause-outside : goal.returns-clause-outside
returns-clause-outside g c =
    outside_of g.K.Sink.held g.K.Sink.faults g.K.Sink.full g.S.Source.left g.S.Source.faults
    g.S.Source.full (map string_bytes c.args.words.now) c.args.source.now
    c.answer-ending.new.source c.args.sink.now c.answer-ending.new.sink
    (λ (line : List ℕ). Notes g.N.Sink.held g.N.Sink.faults g.N.Sink.full c.args.note.now
    c.tell.new.note line) c.answer-ending.result _ refl
    c.answer-ending.ensures.ending

pub returns-clause-accepted : goal.returns-clause-accepted
returns-clause-accepted g c =
    accepted_of g.K.Sink.held g.K.Sink.faults g.K.Sink.full g.S.Source.left g.S.Source.faults
    g.S.Source.full (map string_bytes c.args.words.now) c.args.source.now
    c.answer-ending.new.source c.args.sink.now c.answer-ending.new.sink
    (λ (line : List ℕ). Notes g.N.Sink.held g.N.Sink.faults g.N.Sink.full c.args.note.now
    c.tell.new.note line) c.answer-ending.result _ refl
    c.answer-ending.ensures.ending

pub returns-clause-back : goal.returns-clause-back
returns-clause-back g c =
    back_of g.K.Sink.held g.K.Sink.faults g.K.Sink.full g.S.Source.left g.S.Source.faults
    g.S.Source.full (map string_bytes c.args.words.now) c.args.source.now
    c.answer-ending.new.source c.args.sink.now c.answer-ending.new.sink
    (λ (line : List ℕ). Notes g.N.Sink.held g.N.Sink.faults g.N.Sink.full c.args.note.now
    c.tell.new.note line) c.answer-ending.result _ refl
    c.answer-ending.ensures.ending c.tell.ensures.notes

pub returns-clause-chunk_back : goal.returns-clause-chunk_back
returns-clause-chunk_back g c =
    chunk_back_of g.K.Sink.held g.K.Sink.faults g.K.Sink.full g.S.Source.left g.S.Source.faults
    g.S.Source.full (map string_bytes c.args.words.now) c.args.source.now
    c.answer-ending.new.source c.args.sink.now c.answer-ending.new.sink
    (λ (line : List ℕ). Notes g.N.Sink.held g.N.Sink.faults g.N.Sink.full c.args.note.now
    c.tell.new.note line) c.answer-ending.result _ refl
    c.answer-ending.ensures.ending c.tell.ensures.notes

pub returns-clause-migrated : goal.returns-clause-migrated
returns-clause-migrated g c =
    λ bytes plan b meaning means calm still had short of whole stands.
    migrated_of g.K.Sink.held g.K.Sink.faults g.K.Sink.full g.S.Source.left g.S.Source.faults
    g.S.Source.full (map string_bytes c.args.words.now) c.args.source.now
    c.answer-ending.new.source c.args.sink.now c.answer-ending.new.sink
    (λ (line : List ℕ). Notes g.N.Sink.held g.N.Sink.faults g.N.Sink.full c.args.note.now
    c.tell.new.note line) c.answer-ending.result _ refl
    c.answer-ending.ensures.ending c.tell.ensures.notes bytes plan b meaning means calm still had
    short of whole stands

pub returns-clause-indexed : goal.returns-clause-indexed
returns-clause-indexed g c =
    indexed_of g.K.Sink.held g.K.Sink.faults g.K.Sink.full g.S.Source.left g.S.Source.faults
    g.S.Source.full (map string_bytes c.args.words.now) c.args.source.now
    c.answer-ending.new.source c.args.sink.now c.answer-ending.new.sink
    (λ (line : List ℕ). Notes g.N.Sink.held g.N.Sink.faults g.N.Sink.full c.args.note.now
    c.tell.new.note line) c.answer-ending.result _ refl
    c.answer-ending.ensures.ending c.tell.ensures.notes

pub returns-clause-range_back : goal.returns-clause-range_back
returns-clause-range_back g c =
    range_back_of g.K.Sink.held g.K.Sink.faults g.K.Sink.full g.S.Source.left g.S.Source.faults
    g.S.Source.full (map string_bytes c.args.words.now) c.args.source.now
    c.answer-ending.new.source c.args.sink.now c.answer-ending.new.sink
    (λ (line : List ℕ). Notes g.N.Sink.held g.N.Sink.faults g.N.Sink.full c.args.note.now
    c.tell.new.note line) c.answer-ending.result _ refl
    c.answer-ending.ensures.ending c.tell.ensures.notes

pub returns-clause-sampled : goal.returns-clause-sampled
returns-clause-sampled g c = λ seed columns rows means.
    let so = c.answer-ending.ensures.sampled seed columns rows means in
    (so.0, sampled_of c.answer-ending.result _ refl so.1)
