use Rattle.std.proofs.Common.{◌∙◌, Some, ap, sym}
use Rattle.command_words.proofs.Reading.{chunk_unread, decode_unread, encode_unread, if_none, met_is, range_unread, sample_unread}
use Rattle.command_words.proofs.command.asked.Goals as goal

pub returns-in_err-segments-in-encode-default-clause-none :
    goal.returns-in_err-segments-in-encode-default-clause-none
returns-in_err-segments-in-encode-default-clause-none c =
    let named = ap (λ name. Some name) (sym c.in-encode-default.is-encode-0) ∙ c.in_ok-options.ensures.name in
    if_none _ _ (encode_unread _ _ (met_is _ _ _ named c.in_ok-options.ensures.rows)
    c.in_err-segments-in-encode-default.ensures.none)

pub returns-in_err-workers-in-decode-default-clause-none :
    goal.returns-in_err-workers-in-decode-default-clause-none
returns-in_err-workers-in-decode-default-clause-none c =
    let named = ap (λ name. Some name) (sym c.in-decode-default.is-decode-0) ∙ c.in_ok-options.ensures.name in
    if_none _ _ (decode_unread _ _ (met_is _ _ _ named c.in_ok-options.ensures.rows)
    c.in_err-workers-in-decode-default.ensures.none)

pub returns-in_err-index-in-chunk-default-clause-none :
    goal.returns-in_err-index-in-chunk-default-clause-none
returns-in_err-index-in-chunk-default-clause-none c =
    let named = ap (λ name. Some name) (sym c.in-chunk-default.is-chunk-0) ∙ c.in_ok-options.ensures.name in
    if_none _ _ (chunk_unread _ _ (met_is _ _ _ named c.in_ok-options.ensures.rows)
    (λ index size segments one two last. c.in_err-index-in-chunk-default.ensures.none index one))

pub returns-in_err-size-in-chunk-default-clause-none :
    goal.returns-in_err-size-in-chunk-default-clause-none
returns-in_err-size-in-chunk-default-clause-none c =
    let named = ap (λ name. Some name) (sym c.in-chunk-default.is-chunk-0) ∙ c.in_ok-options.ensures.name in
    if_none _ _ (chunk_unread _ _ (met_is _ _ _ named c.in_ok-options.ensures.rows)
    (λ index size segments one two last. c.in_err-size-in-chunk-default.ensures.none size two))

pub returns-in_err-segments-in-chunk-default-clause-none :
    goal.returns-in_err-segments-in-chunk-default-clause-none
returns-in_err-segments-in-chunk-default-clause-none c =
    let named = ap (λ name. Some name) (sym c.in-chunk-default.is-chunk-0) ∙ c.in_ok-options.ensures.name in
    if_none _ _ (chunk_unread _ _ (met_is _ _ _ named c.in_ok-options.ensures.rows)
    (λ index size segments one two last. c.in_err-segments-in-chunk-default.ensures.none segments last))

pub returns-in_err-seed-in-sample-default-clause-none :
    goal.returns-in_err-seed-in-sample-default-clause-none
returns-in_err-seed-in-sample-default-clause-none c =
    let named = ap (λ name. Some name) (sym c.in-sample-default.is-sample-0) ∙ c.in_ok-options.ensures.name in
    if_none _ _ (sample_unread _ _ (met_is _ _ _ named c.in_ok-options.ensures.rows)
    (λ seed columns rows one two last. c.in_err-seed-in-sample-default.ensures.none seed one))

pub returns-in_err-columns-in-sample-default-clause-none :
    goal.returns-in_err-columns-in-sample-default-clause-none
returns-in_err-columns-in-sample-default-clause-none c =
    let named = ap (λ name. Some name) (sym c.in-sample-default.is-sample-0) ∙ c.in_ok-options.ensures.name in
    if_none _ _ (sample_unread _ _ (met_is _ _ _ named c.in_ok-options.ensures.rows)
    (λ seed columns rows one two last. c.in_err-columns-in-sample-default.ensures.none columns two))

pub returns-in_err-rows-in-sample-default-clause-none :
    goal.returns-in_err-rows-in-sample-default-clause-none
returns-in_err-rows-in-sample-default-clause-none c =
    let named = ap (λ name. Some name) (sym c.in-sample-default.is-sample-0) ∙ c.in_ok-options.ensures.name in
    if_none _ _ (sample_unread _ _ (met_is _ _ _ named c.in_ok-options.ensures.rows)
    (λ seed columns rows one two last. c.in_err-rows-in-sample-default.ensures.none rows last))

pub returns-in_err-from-in-range-default-clause-none :
    goal.returns-in_err-from-in-range-default-clause-none
returns-in_err-from-in-range-default-clause-none c =
    let named = ap (λ name. Some name) (sym c.in-range-default.is-range-0) ∙ c.in_ok-options.ensures.name in
    if_none _ _ (range_unread _ _ (met_is _ _ _ named c.in_ok-options.ensures.rows)
    (λ from to workers one two last. c.in_err-from-in-range-default.ensures.none from one))

pub returns-in_err-to-in-range-default-clause-none :
    goal.returns-in_err-to-in-range-default-clause-none
returns-in_err-to-in-range-default-clause-none c =
    let named = ap (λ name. Some name) (sym c.in-range-default.is-range-0) ∙ c.in_ok-options.ensures.name in
    if_none _ _ (range_unread _ _ (met_is _ _ _ named c.in_ok-options.ensures.rows)
    (λ from to workers one two last. c.in_err-to-in-range-default.ensures.none to two))

pub returns-in_err-workers-in-range-default-clause-none :
    goal.returns-in_err-workers-in-range-default-clause-none
returns-in_err-workers-in-range-default-clause-none c =
    let named = ap (λ name. Some name) (sym c.in-range-default.is-range-0) ∙ c.in_ok-options.ensures.name in
    if_none _ _ (range_unread _ _ (met_is _ _ _ named c.in_ok-options.ensures.rows)
    (λ from to workers one two last. c.in_err-workers-in-range-default.ensures.none workers last))
