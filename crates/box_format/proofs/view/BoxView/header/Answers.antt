use Rattle.box_format.proofs.view.BoxView.header.Goals as goal

pub returns-clause-fits : goal.returns-clause-fits
returns-clause-fits c = c.self.invariant.scan.1.header_fits
