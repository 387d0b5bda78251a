-- A count of faults that rose, over more calls.
use Rattle.std.proofs.Common.{ℕ, ◌≤◌, inl, inr, arith}
use Rattle.blob_store.specs.States.{HasRisen}

-- a count that rose between two calls rose from any call before them to any call after them
pub risen_wider : (first before after last : ℕ) → first ≤ before → HasRisen before after → after ≤ last
    → HasRisen first last
risen_wider first before after last early (inl rose) late = inl (omega (arith, early, rose, late))
risen_wider first before after last early (inr full) late = inr (omega (arith, full, late))
