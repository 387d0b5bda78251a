use Rattle.std.proofs.Common.{◌≡◌, ◌∷◌, ℕ, List, inr, Err, ap}
use Rattle.std.proofs.lemmas.Result.{IfOk-weaker}
use Rattle.lepton_encode.specs.declared.error.EncodeError.{EncodeError}
use Rattle.container_spec.specs.ScansFiles.{FileIsRefused, FileRefusal, Header, Scan}
use Rattle.photo_blob.specs.Blobs.{IsBlobOf, plain_mark}
use Rattle.photo_store.proofs.make.make_blob.Goals as goal

pub returns-in-Err-Header : goal.returns-in-Err-Header
returns-in-Err-Header g c =
    let file : List ℕ = c.args.file.now in
    let refusal : FileRefusal = Header c.in-Err-Header.field-0-0 in
    let refused : FileIsRefused file refusal =
    c.in-Err-Header.ensures.header c.in-Err-Header.field-0-0
    (ap (λ (error : EncodeError). Err error) c.in-Err-Header.field-0-is) in
    IfOk-weaker c.marked-in-Err-Header.result (λ blob. blob.items ≡ plain_mark ∷ file)
    (λ blob. IsBlobOf blob.items file) (λ blob is. inr (is, refusal, refused))
    c.marked-in-Err-Header.ensures

pub returns-in-Err-Scan : goal.returns-in-Err-Scan
returns-in-Err-Scan g c =
    let file : List ℕ = c.args.file.now in
    let refusal : FileRefusal = Scan c.in-Err-Scan.field-0-0 in
    let refused : FileIsRefused file refusal =
    c.in-Err-Scan.ensures.scan c.in-Err-Scan.field-0-0
    (ap (λ (error : EncodeError). Err error) c.in-Err-Scan.field-0-is) in
    IfOk-weaker c.marked-in-Err-Scan.result (λ blob. blob.items ≡ plain_mark ∷ file)
    (λ blob. IsBlobOf blob.items file) (λ blob is. inr (is, refusal, refused))
    c.marked-in-Err-Scan.ensures
