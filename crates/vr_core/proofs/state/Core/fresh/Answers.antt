use Rattle.vr_model.specs.Checkpoints.{KeptLog, base_of}
use Rattle.std.proofs.Common.{rules, ◌≤◌, subst, ◌∙◌, ◌<◌, ap, sym, refl, replicate, false, Some, length, arith}
use Rattle.std.proofs.lemmas.List.{get_or-replicate}
use Rattle.std.proofs.lemmas.Option.{slice_get-get_or}
use Rattle.vr_core.proofs.LongerLog.{numbers_none, nothing_executed}
use Rattle.vr_core.proofs.state.Core.fresh.Goals as goal

pub returns : goal.returns
returns c =
    let start = c.args.start in
    let Q = start.image in
    let budget = start.budget.instructions in
    record {
      member = record { f = refl; number = refl; answer = refl; program = refl; budget = refl };
      status = refl;
      view = refl;
      log = search rules;
      reached = subst (λ (k : KeptLog). base_of k.checkpoint ≤ 0) (sym c.of.ensures) (omega arith);
      commit_number = refl;
      executed = nothing_executed start.controller start.clients Q budget c.requires.controller c.requires.clients;
      numbers = numbers_none start.clients c.requires.clients;
      last_normal_view = refl;
      stored_view = refl;
      stored = λ e. omega arith;
      acknowledged = λ s l. sym (get_or-replicate 7 s 0 0 l);
      start_view_changes = λ s l. let w : s < length (replicate 7 false) = l in slice_get-get_or (replicate 7 false) s false w ∙ ap (λ b. Some b) (get_or-replicate 7 s false false l);
      do_view_changes = λ e. absurd cc;
      sent_do_view_change = refl;
      own = λ e. absurd cc;
      nonce = refl;
      responses = λ e. absurd cc;
    }
