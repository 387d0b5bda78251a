-- Bytes that were written, one part after another.
use Rattle.std.proofs.Common.{◌≡◌, ℕ, ◌+◌, ◌<◌, ◌≤◌, List, [], ◌++◌, length, take, refl, sym, ap, ap₂, subst, ◌∙◌, arith, length-append, Option, ◌⊎◌, append_assoc}
use lib.Seq.{take-append-le, take-append-add}
use Rattle.std.specs.Io.KnownBytes.{Appends}
use Rattle.std.proofs.KnownBytes.{Appends-trans, Appends-nil}
use Rattle.outside_core.specs.Takes.{MovesOn, TakesNext}
use Rattle.outside_core.proofs.TextTaken.{moves_later}
use Rattle.byte_window.specs.declared.window.Window.{Window}
use Rattle.byte_window.specs.Windows.{window, after, through}
use Rattle.byte_window.proofs.WindowParts.{comes_in_pieces, is_counted, through_none}
use Rattle.outside_core.specs.Written.{HasWritten, HasFailed}

-- the first bytes, and some of those that come next
pub take_into : (first out more : List ℕ) (n : ℕ) → n ≤ length out
    → take (length first + n) (first ++ (out ++ more)) ≡ first ++ take n out
take_into first out more n few =
    take-append-add first (out ++ more) n
    ∙ ap (λ (l : List ℕ). first ++ l) (take-append-le n out more few)

-- what goes through a window of some bytes, of others and of the rest
pub through_parts : (w : Window) (first out more bytes : List ℕ) (n : ℕ) → n ≡ length first
    → bytes ≡ first ++ (out ++ more)
    → window w bytes ≡ window w first ++ (window (after w n) out ++ window (after (after w n) (length out)) more)
through_parts w first out more bytes n e text =
    ap (window w) text ∙ comes_in_pieces w first (out ++ more)
    ∙ ap (λ (k : ℕ). window w first ++ window (after w k) (out ++ more)) (sym e)
    ∙ ap (λ (l : List ℕ). window w first ++ l) (comes_in_pieces (after w n) out more)

module _ {Sink : Type 0} (takes : Sink → List ℕ → Type 0) where
  -- a sink that takes bytes takes the first of them
  pub next_first : (sink : Sink) (first more bytes : List ℕ) → TakesNext takes sink bytes
      → bytes ≡ first ++ more → TakesNext takes sink first
  next_first sink first more bytes next e =
      let rest = next.0 in (
        more ++ rest,
        subst (takes sink) (ap (λ (l : List ℕ). l ++ rest) e ∙ append_assoc first more rest) next.1,
      )

  -- and after them the others
  pub next_later : (old new : Sink) (first more bytes : List ℕ) → TakesNext takes old bytes
      → MovesOn takes old new first → bytes ≡ first ++ more → TakesNext takes new more
  next_later old new first more bytes next onward e =
      let rest = next.0 in (
        rest,
        onward (more ++ rest)
            (subst (takes old) (ap (λ (l : List ℕ). l ++ rest) e ∙ append_assoc first more rest) next.1),
      )

  -- bytes between those that are written and others
  pub next_between : (old new : Sink) (first out more bytes : List ℕ) → TakesNext takes old bytes
      → MovesOn takes old new first → bytes ≡ first ++ (out ++ more) → TakesNext takes new out
  next_between old new first out more bytes next onward e =
      next_first new out more (out ++ more) (next_later old new first (out ++ more) bytes next onward e) refl

  -- the same of what goes through a window
  pub next_on : (w : Window) (old new : Sink) (first out more bytes : List ℕ) (n : ℕ) → n ≡ length first
      → TakesNext takes old (window w bytes) → MovesOn takes old new (window w first)
      → bytes ≡ first ++ (out ++ more) → TakesNext takes new (window (after w n) out)
  next_on w old new first out more bytes n e next onward text =
      next_between old new (window w first) (window (after w n) out)
      (window (after (after w n) (length out)) more) (window w bytes) next onward
      (through_parts w first out more bytes n e text)

  pub next_in : (w : Window) (sink : Sink) (first more bytes : List ℕ) → TakesNext takes sink (window w bytes)
      → bytes ≡ first ++ more → TakesNext takes sink (window w first)
  next_in w sink first more bytes next e =
      next_first sink (window w first) (window (after w (length first)) more) (window w bytes) next
      (ap (window w) e ∙ comes_in_pieces w first more)

module _ {Sink : Type 0} (held : Sink → Option (List ℕ))
    (takes : Sink → List ℕ → Type 0) (faults : Sink → ℕ) (full : Sink → Type 0) where
  -- nothing was written
  pub written_none : (sink : Sink) → HasWritten held takes faults sink sink []
  written_none sink = record { appended = Appends-nil (held sink); unfailed = refl; onward = λ rest t. t }

  -- bytes, and then others
  pub written_later : (old mid sink : Sink) (a b : List ℕ) → HasWritten held takes faults old mid a
      → HasWritten held takes faults mid sink b → HasWritten held takes faults old sink (a ++ b)
  written_later old mid sink a b p q = record {
    appended = Appends-trans (held old) (held mid) (held sink) a b p.appended q.appended;
    unfailed = q.unfailed ∙ p.unfailed;
    onward = moves_later takes old mid sink a b p.onward q.onward;
  }

  -- a write failed in the first of some bytes
  pub failed_first : (old sink : Sink) (first more bytes : List ℕ) (written : ℕ)
      → HasFailed held faults full old sink first written → bytes ≡ first ++ more
      → HasFailed held faults full old sink bytes written
  failed_first old sink first more bytes written f e =
      let short = f.short in
      let long = ap length e ∙ length-append first more in
      record {
        rose = f.rose;
        short = omega (arith, short, long);
        appended = subst (Appends (held old) (held sink))
            (sym (ap (take written) e ∙ take-append-le written first more (omega arith))) f.appended;
      }

  -- a write failed after the first of some bytes
  pub failed_later : (old mid sink : Sink) (first out more bytes : List ℕ) (count written : ℕ)
      → HasWritten held takes faults old mid first → HasFailed held faults full mid sink out written
      → bytes ≡ first ++ (out ++ more) → count ≡ length first
      → HasFailed held faults full old sink bytes (count + written)
  failed_later old mid sink first out more bytes count written w f e n =
      let short = f.short in
      let long : length bytes ≡ length first + (length out + length more) =
      ap length e ∙ length-append first (out ++ more) ∙ ap (λ (k : ℕ). length first + k) (length-append out more) in
      record {
        rose = subst (λ (k : ℕ). (k < faults sink) ⊎ full sink) w.unfailed f.rose;
        short = omega (arith, short, long, n);
        appended = subst (Appends (held old) (held sink))
            (sym (ap₂ (λ (k : ℕ) (l : List ℕ). take (k + written) l) n e ∙ take_into first out more written (omega arith)))
            (Appends-trans (held old) (held mid) (held sink) first (take written out) w.appended f.appended);
      }

  -- nothing came through a window
  pub written_nothing : (w : Window) (sink : Sink) → HasWritten held takes faults sink sink (window w [])
  written_nothing w sink =
      subst (HasWritten held takes faults sink sink) (sym (through_none w)) (written_none sink)

  -- bytes through a window, and then others
  pub written_on : (w : Window) (old mid sink : Sink) (a b : List ℕ) (n : ℕ) → n ≡ length a
      → HasWritten held takes faults old mid (window w a)
      → HasWritten held takes faults mid sink (window (after w n) b)
      → HasWritten held takes faults old sink (window w (a ++ b))
  written_on w old mid sink a b n e p q =
      subst (HasWritten held takes faults old sink)
      (ap (λ (k : ℕ). window w a ++ window (after w k) b) e ∙ sym (comes_in_pieces w a b))
      (written_later old mid sink (window w a) (window (after w n) b) p q)

  -- a write failed in what a window let through of the first of some bytes
  pub failed_in : (w : Window) (old sink : Sink) (first more bytes : List ℕ) (written : ℕ)
      → HasFailed held faults full old sink (window w first) written → bytes ≡ first ++ more
      → HasFailed held faults full old sink (window w bytes) written
  failed_in w old sink first more bytes written f e =
      failed_first old sink (window w first) (window (after w (length first)) more) (window w bytes) written f
      (ap (window w) e ∙ comes_in_pieces w first more)

  -- a write failed after the first of some bytes
  pub failed_on : (w : Window) (old mid sink : Sink) (first out more bytes : List ℕ) (n written : ℕ)
      → n ≡ length first → HasWritten held takes faults old mid (window w first)
      → HasFailed held faults full mid sink (window (after w n) out) written
      → bytes ≡ first ++ (out ++ more)
      → HasFailed held faults full old sink (window w bytes) (through w n + written)
  failed_on w old mid sink first out more bytes n written e p f text =
      failed_later old mid sink (window w first) (window (after w n) out)
      (window (after (after w n) (length out)) more) (window w bytes) (through w n) written p f
      (through_parts w first out more bytes n e text)
      (ap (through w) e ∙ sym (is_counted w first).0)
