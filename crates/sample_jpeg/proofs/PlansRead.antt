-- What is read of a sample's header, and the texts of its segments one after another.
use Rattle.std.proofs.Common.{◌≡◌, ℕ, Bool, true, false, List, [], ◌∷◌, ◌++◌, refl, sym, ap, subst, ◌∙◌, append_assoc, append-nil, flat_map}
use Rattle.jpeg_marker.specs.HeaderPlan.{Accepts, Refuses}
use Rattle.jpeg_marker.specs.MarkerSegments.{segment_text}
use Rattle.jpeg_marker.specs.Plans.{PlanFields}
use Rattle.jpeg_marker.specs.declared.refusal.HeaderRefusal.{HeaderRefusal}
use Rattle.jpeg_marker.proofs.HeaderLaws.{never_both, one_plan}
use Rattle.sample_jpeg.specs.declared.extent.Extent.{Extent}
use Rattle.sample_jpeg.specs.SampleHeader.{IsExtent, ac_table, dc_table, frame_segment, interval_segments, sample_header, sample_plan, scan_segment, table_segment}
use Rattle.sample_jpeg.proofs.SampleHeaders.{sample_accepts}

accepted : (bytes : List ℕ) (e : Extent) → IsExtent e → bytes ≡ sample_header e → Accepts bytes (sample_plan e)
accepted bytes e is same =
    subst (λ (b : List ℕ). Accepts b (sample_plan e)) (append-nil (sample_header e) ∙ sym same) (sample_accepts e [] is)

pub plan_read : (bytes : List ℕ) (plan : PlanFields) (e : Extent) → IsExtent e → bytes ≡ sample_header e → Accepts bytes plan → plan ≡ sample_plan e
plan_read bytes plan e is same accepts = one_plan bytes plan (sample_plan e) accepts (accepted bytes e is same)

pub never_refused : (bytes : List ℕ) (refusal : HeaderRefusal) (e : Extent) → IsExtent e → bytes ≡ sample_header e → Refuses bytes refusal → ⊥
never_refused bytes refusal e is same refuses = never_both bytes (sample_plan e) refusal (accepted bytes e is same) refuses

-- parts appended one by one
parts : (b m f t u i s : List ℕ) → (((((b ++ m) ++ f) ++ t) ++ u) ++ i) ++ s ≡ b ++ (m ++ (f ++ (t ++ (u ++ (i ++ s)))))
parts b m f t u i s = rw (append_assoc b m f) (rw (append_assoc b (m ++ f) t) (rw (append_assoc b ((m ++ f) ++ t) u) (rw (append_assoc b (((m ++ f) ++ t) ++ u) i) (rw (append_assoc b ((((m ++ f) ++ t) ++ u) ++ i) s) (rw (append_assoc m f t, append_assoc m (f ++ t) u, append_assoc m ((f ++ t) ++ u) i, append_assoc m (((f ++ t) ++ u) ++ i) s, append_assoc f t u, append_assoc f (t ++ u) i, append_assoc f ((t ++ u) ++ i) s, append_assoc t u i, append_assoc t (u ++ i) s, append_assoc u i s) refl)))))

with_scan : (restarts : Bool) (columns rows : ℕ) → let e : Extent = record { restarts = restarts; columns = columns; rows = rows } in
    flat_map segment_text (interval_segments e ++ scan_segment ∷ []) ≡ flat_map segment_text (interval_segments e) ++ segment_text scan_segment
with_scan true columns rows = refl
with_scan false columns rows = refl

pub header_put : (e : Extent) (b0 b1 b2 b3 b4 b5 b6 : List ℕ) → b1 ≡ b0 ++ (0xff ∷ 0xd8 ∷ []) → b2 ≡ b1 ++ segment_text (frame_segment e)
    → b3 ≡ b2 ++ segment_text (table_segment 0x00 dc_table) → b4 ≡ b3 ++ segment_text (table_segment 0x10 ac_table)
    → b5 ≡ b4 ++ flat_map segment_text (interval_segments e) → b6 ≡ b5 ++ segment_text scan_segment → b6 ≡ b0 ++ sample_header e
unfolding sample_header
header_put e b0 b1 b2 b3 b4 b5 b6 e1 e2 e3 e4 e5 e6 =
    let f = segment_text (frame_segment e) in
    let t = segment_text (table_segment 0x00 dc_table) in
    let u = segment_text (table_segment 0x10 ac_table) in
    let i = flat_map segment_text (interval_segments e) in
    let s = segment_text scan_segment in
    e6 ∙ ap (λ b. b ++ s) (e5 ∙ ap (λ b. b ++ i) (e4 ∙ ap (λ b. b ++ u) (e3 ∙ ap (λ b. b ++ t) (e2 ∙ ap (λ b. b ++ f) e1))))
    ∙ parts b0 (0xff ∷ 0xd8 ∷ []) f t u i s
    ∙ ap (λ (l : List ℕ). b0 ++ (0xff ∷ 0xd8 ∷ (f ++ (t ++ (u ++ l))))) (sym (with_scan e.restarts e.columns e.rows))
