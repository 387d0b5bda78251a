use Rattle.std.proofs.Common.{◌≡◌, ◌-◌}
use Rattle.sample_jpeg.specs.DrawnMcus.{set_times}
use Rattle.sample_jpeg.proofs.draws.Draws.block.Given as goal

-- what is left to be set gives what all of it gives
abbrev pub invariant-loop : goal.invariant-loop
invariant-loop l =
    set_times (l.times - l.counter) l.block l.self.state
    ≡ set_times l.times l.initial.block l.initial.self.state
