use Rattle.std.proofs.Common.{◌≡◌, ◌++◌, List, ℕ, append_assoc}
use Rattle.byteorder.specs.Endian.{big_bytes}
use Rattle.box_format.proofs.writing.put_chunk_fields.Goals as goal

-- what was written one after another
written : (b a0 a1 a2 a3 a4 f g h i j k l m n o : List ℕ) → k ≡ f → l ≡ g → m ≡ h → n ≡ i → o ≡ j
    → a0 ≡ b ++ k → a1 ≡ a0 ++ l → a2 ≡ a1 ++ m → a3 ≡ a2 ++ n → a4 ≡ a3 ++ o
    → a4 ≡ b ++ (f ++ (g ++ (h ++ (i ++ j))))
written b a0 a1 a2 a3 a4 f g h i j k l m n o p q r s t e0 e1 e2 e3 e4 =
    rw (e4, e3, e2, e1, e0, p, q, r, s, t) (simp append_assoc)

pub returns : goal.returns
returns c =
    let k = c.args.chunk.now in
    written c.args.bytes.now.items _ _ _ _ _ (big_bytes 8 k.place) (big_bytes 8 k.length)
    (big_bytes 8 k.skip) (big_bytes 4 k.from) (big_bytes 4 k.to)
    c.to_be_bytes.result c.to_be_bytes-2.result c.to_be_bytes-3.result c.to_be_bytes-4.result
    c.to_be_bytes-5.result
    c.to_be_bytes.ensures c.to_be_bytes-2.ensures c.to_be_bytes-3.ensures
    c.to_be_bytes-4.ensures c.to_be_bytes-5.ensures
    c.in_ok-extend_from_slice.ensures.items c.in_ok-extend_from_slice-2.ensures.items
    c.in_ok-extend_from_slice-3.ensures.items c.in_ok-extend_from_slice-4.ensures.items
    c.in_ok-extend_from_slice-5.ensures.items
