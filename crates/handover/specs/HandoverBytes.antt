-- Statement: the fourteen bytes of a handover, and back (docs/FORMAT.md, The container).
use Rattle.std.specs.Prelude.{ℕ, ◌-◌, ◌%◌, ◌^◌, Bool, ◌&&◌, ◌==◌, nat_le, List, [], ◌∷◌, ◌++◌, map, flat_map, drop, slice_index, ℤ, unsigned_abs}
use Rattle.std.specs.Int.{w16, cast_unsigned, cast_signed}
use Rattle.std.specs.List.{list_all}
use Rattle.byteorder.specs.Endian.{big_bytes, big_number}
use Rattle.coef_block.specs.Block.{most_dc}
use Rattle.handover.specs.Handovers.{HandoverFields}

-- partial byte, bits, four predictors in two's complement, restart markers; the highest byte of a number first
unfoldable pub handover_bytes : HandoverFields → List ℕ
handover_bytes h =
    h.partial ∷ h.bits ∷ flat_map (λ dc. big_bytes 2 (cast_unsigned w16 dc)) h.preds
    ++ big_bytes 4 h.restarts

-- the predictor at a place
abbrev pub predictor_at : List ℕ → ℕ → ℤ
predictor_at bytes place = cast_signed w16 (big_number 2 (drop place bytes))

-- the fields in fourteen bytes, whatever these are
unfoldable pub handover_in : List ℕ → HandoverFields
handover_in bytes = record {
  partial = slice_index bytes 0;
  bits = slice_index bytes 1;
  preds = map (predictor_at bytes) (2 ∷ 4 ∷ 6 ∷ 8 ∷ []);
  restarts = big_number 4 (drop 10 bytes);
}

-- at most seven bits, zeros after them, and DCs that blocks can have
abbrev pub are_sound : ℕ → ℕ → List ℤ → Bool
are_sound partial bits preds =
    nat_le bits 7 && (partial % 2 ^ (8 - bits) == 0
    && list_all (λ dc. nat_le (unsigned_abs dc) most_dc) preds)

-- whether fields are a handover's
abbrev pub is_handover : HandoverFields → Bool
is_handover h = are_sound h.partial h.bits h.preds
