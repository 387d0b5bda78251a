-- How a decode ends by how its emitter did.
use Rattle.std.proofs.Common.{◌≡◌, ℕ, true, List, Result, Ok, Err}
use Rattle.std.specs.Prelude.{All, OnOk}
use Rattle.output_board.specs.declared.view.WorkerView.{WorkerView}
use Rattle.segment_crew.specs.Crews.{Member}
use Rattle.lepton_decode.specs.declared.error.DecodeError.{DecodeError}
use Rattle.lepton_decode.specs.declared.error.DecodeError.TheVariants.{WriteFault, Fault, PadSpelling, ChunkShort}
use Rattle.lepton_decode.specs.Ends.{HaveLeft}

-- what holds anyhow, holds if it ends well
pub on_ok : (n m : ℕ) (result : Result ℕ DecodeError) → n ≡ m → OnOk result (n ≡ m)
on_ok n m (Ok written) same = same
on_ok n m (Err error) same = tt

-- each worker has left
pub have_left : (team : List (Member WorkerView)) (result : Result ℕ DecodeError)
    → All (λ (member : Member WorkerView). member.view.left ≡ true) team → HaveLeft team result
have_left team (Ok written) left = left
have_left team (Err PadSpelling) left = left
have_left team (Err ChunkShort) left = left
have_left team (Err (Fault fault)) left = left
have_left team (Err (WriteFault written)) left = tt
