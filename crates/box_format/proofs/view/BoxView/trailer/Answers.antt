use Rattle.box_format.proofs.view.BoxView.trailer.Goals as goal

pub returns-clause-fits : goal.returns-clause-fits
returns-clause-fits c = c.self.invariant.scan.1.trailer_fits
