use Rattle.std.proofs.Common.{◌≡◌, ℕ, List, [], ◌∷◌, ◌++◌, length, append-nil, sym, ap, ap₂, ◌∙◌, arith}
use Rattle.std.proofs.lemmas.List.{take-append-drop, length-take-le}
use Rattle.bit_list.specs.Bits.{stuffed}
use Rattle.bit_list.proofs.Wholes.{no_byte}
use Rattle.scan_spec.proofs.PlainTurns.{byte_more}
use Rattle.scan_spec.proofs.plain_bytes.put_bytes.Goals as goal

pub loop-rest-preserved : goal.loop-rest-preserved
loop-rest-preserved c =
    let out = c.loop-rest.out.items in
    let rest = c.loop-rest.rest.now in
    let byte = c.split_at.result.0.now in
    let later = c.split_at.result.1.now in
    let split : rest ≡ byte ++ later = sym (ap₂ ◌++◌ c.split_at.ensures.front c.split_at.ensures.back ∙ take-append-drop 8 rest) in
    let eight : length byte ≡ 8 = ap length c.split_at.ensures.front ∙ length-take-le 8 rest (omega arith) in
    let put = c.in_ok-put_byte.ensures ∙ ap (λ (n : ℕ). out ++ stuffed (n ∷ [])) c.number_of.ensures in
    byte_more out c.put_byte.new.out.items rest byte later split eight put ∙ c.loop-rest.invariant

pub returns : goal.returns
returns c =
    let out = c.loop-rest.out.items in
    let none = no_byte [] c.loop-rest.rest.now (omega arith) in
    sym (append-nil out) ∙ sym (ap (λ (bytes : List ℕ). out ++ stuffed bytes) none) ∙ c.loop-rest.invariant
