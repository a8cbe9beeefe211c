use Rattle.std.proofs.Common.{◌∙◌, ap, length, sym}
use Rattle.std.proofs.lemmas.Result.{IfOk-weaker}
use Rattle.revirt_tool.proofs.Samples.{sample_reportable, sample_so, sample_spelled}
use Rattle.revirt_tool.proofs.sampling.sampled.Goals as goal

pub report_text-requires-clause-counts : goal.report_text-requires-clause-counts
report_text-requires-clause-counts g c = (sample_reportable c.in_ok-image.image c.in_ok-log.log c.in_ok-log.ended c.in_ok-log.ensures).counts

pub replayed-requires-clause-spelled : goal.replayed-requires-clause-spelled
replayed-requires-clause-spelled g c = λ _ _. (
  c.in_ok-log.ended,
  sample_spelled c.in_ok-image.image c.in_ok-log.log c.in_ok-log.ended c.in_ok-bytes.bytes.items c.as_slice.result.now c.in_ok-log.ensures
      c.in_ok-bytes.ensures.bytes c.in_ok-bytes.ensures.again c.as_slice.ensures.value,
)

pub replayed-requires-2-clause-spelled : goal.replayed-requires-2-clause-spelled
replayed-requires-2-clause-spelled g c = λ _ _. (
  c.in_ok-log.ended,
  sample_spelled c.in_ok-image.image c.in_ok-log.log c.in_ok-log.ended c.in_ok-bytes.bytes.items c.as_slice-2.result.now c.in_ok-log.ensures
      c.in_ok-bytes.ensures.bytes c.in_ok-bytes.ensures.again c.as_slice-2.ensures.value,
)

pub returns : goal.returns
returns g c =
    let image = c.in_ok-image.image in
    let log = c.in_ok-log.log in
    let ended = c.in_ok-log.ended in
    let bytes = c.in_ok-bytes.bytes.items in
    let one =
    sample_spelled image log ended bytes c.as_slice.result.now c.in_ok-log.ensures c.in_ok-bytes.ensures.bytes c.in_ok-bytes.ensures.again
    c.as_slice.ensures.value in
    let rounds =
    sample_spelled image log ended bytes c.as_slice-2.result.now c.in_ok-log.ensures c.in_ok-bytes.ensures.bytes c.in_ok-bytes.ensures.again
    c.as_slice-2.ensures.value in
    IfOk-weaker c.summary_text.result _ _ (λ text told. sample_so c.args.number c.len.result image log ended bytes
    c.as_slice-3.result.now c.as_slice-4.result.now c.as_slice-5.result.now text.items c.in_ok-image.ensures c.in_ok-log.ensures
    c.in_ok-bytes.ensures.bytes (c.len.ensures ∙ sym c.as_slice.ensures.len ∙ ap length c.as_slice.ensures.value)
    (c.as_slice-3.ensures.value ∙ c.in_ok-report.ensures)
    (c.as_slice-4.ensures.value ∙ c.in_ok-one.ensures ended one)
    (c.as_slice-5.ensures.value ∙ c.in_ok-rounds.ensures ended rounds) told)
    c.summary_text.ensures
