-- Messages from one source.
use Rattle.std.proofs.Common.{◌≡◌, true, List, [], ◌++◌, Option, sym, subst}
use Rattle.std.specs.List.Sorted.{IsPermutation}
use Rattle.std.specs.Option.{IfSome, option_to_list}
use Rattle.std.proofs.lemmas.List.Elements.{All-nil, All-pop}
use Rattle.std.proofs.lemmas.List.Sorted.{All-permutation}
use Rattle.vr_model.specs.declared.message.Party.{Party}
use Rattle.vr_model.specs.declared.message.Message.{Message}
use Rattle.net_peers.specs.declared.accepted.Accepted.{Accepted}
use Rattle.net_peers.specs.Passing.{CameFrom, MayPass, is_from, may_pass}

-- what is put in another order comes from there, too
pub from_permuted : (source : Option Accepted) (to : Party) (ms ns : List Message) → IsPermutation ms ns
    → CameFrom source to ms → CameFrom source to ns
from_permuted source to ms ns p all = All-permutation (λ m. is_from source to m ≡ true) ms ns p all

-- what is left without the last, and the last
pub from_popped : (source : Option Accepted) (to : Party) (ms ns : List Message) (last : Option Message)
    → ms ≡ ns ++ option_to_list last → CameFrom source to ms
    → CameFrom source to ns × IfSome last (λ m. is_from source to m ≡ true)
from_popped source to ms ns last e all = All-pop (λ m. is_from source to m ≡ true) ms ns last e all

-- where nothing came, all of it may pass, and came from wherever
pub nothing_passes : (from to : Party) (ms : List Message) → ms ≡ [] → MayPass from to ms
nothing_passes from to ms e =
    subst (λ (xs : List Message). MayPass from to xs) (sym e) (All-nil (λ m. may_pass from to m ≡ true))

pub nothing_came : (source : Option Accepted) (to : Party) (ms : List Message) → ms ≡ [] → CameFrom source to ms
nothing_came source to ms e =
    subst (λ (xs : List Message). CameFrom source to xs) (sym e) (All-nil (λ m. is_from source to m ≡ true))
