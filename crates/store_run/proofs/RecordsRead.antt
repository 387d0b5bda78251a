-- Records as they are read.
use Rattle.std.proofs.Common.{◌≡◌, ℕ, ◌<◌, ◌≤◌, ◌^◌, List, ◌∷◌, ◌++◌, length, Option, inl, inr, ◌⊎◌, sym, ap, ◌∙◌, subst, refl}
use Rattle.std.specs.Io.KnownBytes.{Consumes, IsAtEnd}
use Rattle.std.proofs.KnownBytes.{Consumes-trans}
use Rattle.std.specs.declared.result.Result.TheVariants.{Err}
use Rattle.byteorder.specs.Endian.{big_bytes}
use Rattle.container_spec.specs.Limits.{most_of_a_file}
use Rattle.store_run.specs.Reading.{IsRead, stop_of}
use Rattle.store_run.specs.Records.{IsBad, IsCut, find_mark, key_length, put_mark, remove_mark}
use Rattle.store_run.specs.declared.calls.RecordStop.{RecordStop}
use Rattle.store_run.specs.declared.calls.RecordStop.TheVariants.{Bad, ReadFault, NoMemory}
use Rattle.store_run.specs.declared.reading.ReadStop.{ReadStop}
use Rattle.store_run.specs.declared.reading.ReadStop.TheVariants.{AtEnd, ReadFault as BytesFault, NoMemory as BytesMemory}

-- a record that is cut
pub cut_read : (bytes : List ℕ) (left : Option (List ℕ)) (stop : ReadStop) → IsCut bytes
    → (stop ≡ AtEnd → IsAtEnd left) → IsRead bytes left (Err (stop_of stop))
cut_read bytes left AtEnd cut end = inr (cut, end refl)
cut_read bytes left BytesFault cut end = inr cut
cut_read bytes left (BytesMemory short) cut end = inr cut

-- and one of a mark and a key
pub key_cut : (mark : ℕ) (part : List ℕ) (left : Option (List ℕ)) (stop : RecordStop)
    → ((mark ≡ find_mark) ⊎ (mark ≡ remove_mark)) → length part < key_length → (stop ≡ Bad → IsAtEnd left)
    → IsRead (mark ∷ part) left (Err stop)
key_cut mark part left Bad is short end = inr (inr (inr (mark, part, refl, is, short)), end refl)
key_cut mark part left ReadFault is short end = inr (inr (inr (mark, part, refl, is, short)))
key_cut mark part left (NoMemory error) is short end = inr (inr (inr (mark, part, refl, is, short)))

-- a length above the most
pub long_is_bad : (field : List ℕ) (long : ℕ) (left : Option (List ℕ)) → big_bytes 4 long ≡ field
    → most_of_a_file < long → long < 2 ^ 32 → IsBad (put_mark ∷ field) left
long_is_bad field long left e more fits =
    inl (inr (long, ap (λ (l : List ℕ). put_mark ∷ l) (sym e), more, fits))

-- a file without its last bytes
pub file_cut : (field part : List ℕ) (full : ℕ) → big_bytes 4 full ≡ field → full ≤ most_of_a_file
    → length part < full → IsCut (put_mark ∷ (field ++ part))
file_cut field part full e few short =
    inr (inl (full, part, ap (λ (l : List ℕ). put_mark ∷ (l ++ part)) (sym e), few, short))

-- a field and then a file
pub file_read : (a b c : Option (List ℕ)) (field file : List ℕ) (full : ℕ) → big_bytes 4 full ≡ field
    → length file ≡ full → Consumes a b field → Consumes b c file
    → Consumes a c (big_bytes 4 (length file) ++ file)
file_read a b c field file full e long p q =
    subst (λ (l : List ℕ). Consumes a c (l ++ file)) (sym e ∙ ap (λ (n : ℕ). big_bytes 4 n) (sym long))
    (Consumes-trans a b c field file p q)
