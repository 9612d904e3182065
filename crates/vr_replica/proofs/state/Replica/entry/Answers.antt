use Rattle.std.proofs.Common.{◌≡◌, ℕ, ◌<◌, ◌⊎◌, Option, Some, None, Bor, sym}
use Rattle.std.specs.Prelude.{MatchOption, slice_get}
use Rattle.std.specs.Option.{option_copied}
use Rattle.il_model.specs.declared.command.Command.{Command}
use Rattle.vr_model.specs.declared.message.Request as code
use Rattle.vr_model.specs.Replicas.{ReplicaState}
use Rattle.vr_model.specs.StandsFor.{request_of}
use Rattle.vr_replica.proofs.Showing.{Shows, shown}
use Rattle.vr_replica.proofs.state.Replica.entry.Goals as goal

shows_it : (r : ReplicaState Command) (place : ℕ) (o : Option (Bor code.Request)) → Shows r place (option_copied o)
    → MatchOption o ((slice_get r.log place ≡ None) ⊎ (place < r.commit_number)) (λ entry. slice_get r.log place ≡ Some (request_of entry.now))
shows_it r place None h = h
shows_it r place (Some x) h = h

pub returns : goal.returns
returns c = λ m r st. shows_it r c.args.place c.get.result (shown c.args.self.now m r c.args.place (option_copied c.get.result) st (sym c.get.ensures))
