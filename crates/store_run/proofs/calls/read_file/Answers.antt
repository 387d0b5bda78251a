use Rattle.std.proofs.Common.{◌∷◌, ◌++◌, inl, refl, sym, subst, ap, ◌∙◌, arith}
use Rattle.std.proofs.KnownBytes.{Consumes-trans}
use Rattle.std.specs.declared.result.Result.TheVariants.{Err}
use Rattle.store_run.specs.declared.calls.RecordStop.{RecordStop}
use Rattle.store_run.specs.declared.reading.ReadStop.{ReadStop}
use Rattle.store_run.specs.Reading.{IsRead}
use Rattle.store_run.specs.Records.{put_mark}
use Rattle.store_run.proofs.RecordsRead.{cut_read, file_cut, file_read, long_is_bad}
use Rattle.store_run.proofs.calls.read_file.Goals as goal

pub returns-then-length-gt-MOST_BYTES-clause-stop : goal.returns-then-length-gt-MOST_BYTES-clause-stop
returns-then-length-gt-MOST_BYTES-clause-stop g c = (
  c.in-Ok.field.items,
  c.in-Ok.ensures.whole,
  long_is_bad c.in-Ok.field.items c.number_in-length.result _
      (c.number_in-length.ensures ∙ c.as_slice.ensures.value) (omega arith) (omega arith),
)

pub returns-in-Err-clause-stop : goal.returns-in-Err-clause-stop
returns-in-Err-clause-stop g c =
    let part = c.in-Err.ensures.part in (
      part.0,
      part.2,
      subst (λ (s : RecordStop). IsRead (put_mark ∷ part.0) (g.S.Source.left c.read_exactly.new.source) (Err s))
          (sym c.record_stop.ensures)
          (cut_read (put_mark ∷ part.0) _ c.in-Err.stop (inl (part.0, refl, part.1))
          (λ is. c.in-Err.ensures.end (ap (λ (s : ReadStop). Err s) is))),
    )

pub returns-in-Ok-read_exactly-clause-file : goal.returns-in-Ok-read_exactly-clause-file
returns-in-Ok-read_exactly-clause-file g c =
    let long = c.in-Ok-read_exactly.ensures.length in
    let test = c.if-length-gt-MOST_BYTES.false in (
      omega (arith, long, test),
      file_read _ _ _ c.in-Ok.field.items c.in-Ok-read_exactly.file.items c.number_in-length.result
          (c.number_in-length.ensures ∙ c.as_slice.ensures.value) long c.in-Ok.ensures.whole
          c.in-Ok-read_exactly.ensures.whole,
    )

pub returns-clause-stop : goal.returns-clause-stop
returns-clause-stop g c =
    let part = c.in-Err-read_exactly.ensures.part in
    let test = c.if-length-gt-MOST_BYTES.false in (
      c.in-Ok.field.items ++ part.0,
      Consumes-trans _ _ _ c.in-Ok.field.items part.0 c.in-Ok.ensures.whole part.2,
      subst (λ (s : RecordStop). IsRead (put_mark ∷ (c.in-Ok.field.items ++ part.0)) (g.S.Source.left c.read_exactly-2.new.source) (Err s))
          (sym c.record_stop-in-Err-read_exactly.ensures)
          (cut_read (put_mark ∷ (c.in-Ok.field.items ++ part.0)) _ c.in-Err-read_exactly.stop
          (file_cut c.in-Ok.field.items part.0 c.number_in-length.result
          (c.number_in-length.ensures ∙ c.as_slice.ensures.value) (omega (arith, test)) part.1)
          (λ is. c.in-Err-read_exactly.ensures.end (ap (λ (s : ReadStop). Err s) is))),
    )
