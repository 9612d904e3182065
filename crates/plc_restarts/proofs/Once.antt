-- One restart at most, by induction on what comes.
use Rattle.std.proofs.Common.{◌≡◌, ◌∙◌, ℕ, ◌+◌, ◌<◌, ◌≤◌, List, [], ◌∷◌, ◌++◌, length, Option, Some, None, inl, inr, refl, ap, subst, sym, arith}
use Rattle.std.specs.Prelude.{Any, option_to_list, slice_index_or}
use Rattle.std.proofs.lemmas.List.{get_or_append_left, length-append}
use Rattle.std.proofs.lemmas.List.{append-nil}
use Rattle.std.proofs.lemmas.List.Quantifiers.{Any-push}
use Rattle.il_model.specs.declared.command.Command.{Command}
use Rattle.plc_restarts.specs.declared.restart.Restart.{Restart}
use Rattle.plc_restarts.specs.declared.restart.Restart.TheVariants.{Hot, Warm, Cold}
use Rattle.plc_restarts.specs.declared.restart.Restarts.{Restarts}
use Rattle.plc_restarts.specs.Outages.{IsFirst, IsRestart, IsRestarted, Makes}
use Rattle.plc_restarts.specs.Leads.{Coming, Leads, Comes, AreComings, restarts_in, RestartsOnce}

-- what makes a restart is one
makes_one : (kind : Restart) (c : Command) → Makes kind c → IsRestart kind c
makes_one Hot c made = made
makes_one Warm c made = inl made
makes_one Cold c made = made

-- a restart that was made stays so
stays : (kind : Restart) (behind more : List Command) → IsRestarted kind behind → IsRestarted kind (behind ++ more)
stays kind behind more done =
    let long = length-append behind more in
    (done.0, done.1, omega (arith, long, done.2), get_or_append_left behind more done.1 done.0 done.2 ∙ done.3, done.4)

-- where one was made none is put any more
none_more : (r : Restarts) (behind : List Command) (cs : List Coming) → IsRestarted r.kind behind → AreComings r behind cs → restarts_in cs ≡ []
none_more r behind [] done are = refl
none_more r behind (Leads last now None ∷ more) done are = none_more r (behind ++ []) more (stays r.kind behind [] done) are.1
none_more r behind (Leads last now (Some c) ∷ more) done are = absurd (are.0.0 (inr (inr (inr done))))
none_more r behind (Comes c ∷ more) done are = none_more r (behind ++ c ∷ []) more (stays r.kind behind (c ∷ []) done) are

one_at_most : (r : Restarts) (behind : List Command) (cs : List Coming) → AreComings r behind cs → length (restarts_in cs) ≤ 1
one_at_most r behind [] are = omega arith
one_at_most r behind (Leads last now None ∷ more) are = one_at_most r (behind ++ []) more are.1
one_at_most r behind (Leads last now (Some c) ∷ more) are =
    let none : restarts_in more ≡ [] = none_more r (behind ++ c ∷ []) more (Any-push (IsRestart r.kind) behind c (makes_one r.kind c are.0.1)) are.1 in
    subst (λ (cs : List Command). length (c ∷ cs) ≤ 1) (sym none) (omega arith)
one_at_most r behind (Comes c ∷ more) are = one_at_most r (behind ++ c ∷ []) more are

pub once : RestartsOnce
once r cs are = one_at_most r [] cs are
