use Rattle.std.proofs.Common.{inr, refl}
use Rattle.std.proofs.lemmas.Result.{err_from_is_err_and}
use Rattle.plc_tool.proofs.Answered.{are_answers, is_run, is_cut_short}
use Rattle.plc_tool.proofs.running.put_run.Goals as goal

pub returns-clause-ok : goal.returns-clause-ok
returns-clause-ok g c =
    is_run _ _ _ _ c.in_ok-controller.controller c.in_ok-places.places _ _ (are_answers _ _ _ c.in_ok-image.image _ c.in_ok-image.ensures.found c.know_lawful.ensures.typed c.know_reading.ensures.reads c.in_ok-controller.ensures) c.in_ok-places.ensures.found c.put_answers.result c.put_answers.ensures

pub returns-clause-err : goal.returns-clause-err
returns-clause-err g c =
    is_cut_short _ _ _ _ c.in_ok-controller.controller c.in_ok-places.places _ _ (are_answers _ _ _ c.in_ok-image.image _ c.in_ok-image.ensures.found c.know_lawful.ensures.typed c.know_reading.ensures.reads c.in_ok-controller.ensures) c.in_ok-places.ensures.found c.put_answers.result c.put_answers.ensures

pub returns-in_err-image-clause-err : goal.returns-in_err-image-clause-err
returns-in_err-image-clause-err g c =
    let p = err_from_is_err_and c.from_residual.result c.from_residual.ensures.1 in
    rw (p.1, p.2) (inr (c.in_err-image.ensures.refused, refl))
