-- Messages that are from one party to another.
use Rattle.std.proofs.Common.{◌≡◌, true, List, ◌++◌, Option}
use Rattle.std.specs.List.{filter}
use Rattle.std.specs.List.Sorted.{IsPermutation}
use Rattle.std.specs.Option.{IfSome, option_to_list}
use Rattle.std.proofs.lemmas.List.Elements.{All-pop, filter_passes}
use Rattle.std.proofs.lemmas.List.Sorted.{All-permutation}
use Rattle.vr_model.specs.declared.message.Party.{Party}
use Rattle.vr_model.specs.declared.message.Message.{Message}
use Rattle.net_links.specs.Own.{is_between, AreBetween}

-- what passes is between them
pub own_are_between : (from to : Party) (ms : List Message) → AreBetween from to (filter (is_between from to) ms)
own_are_between from to ms = filter_passes (is_between from to) ms

-- so is what is put in another order
pub are_between_permuted : (from to : Party) (ms ns : List Message) → IsPermutation ms ns → AreBetween from to ms → AreBetween from to ns
are_between_permuted from to ms ns p all = All-permutation (λ m. is_between from to m ≡ true) ms ns p all

-- what is left without the last, and the last
pub are_between_popped : (from to : Party) (ms ns : List Message) (last : Option Message) → ms ≡ ns ++ option_to_list last → AreBetween from to ms → AreBetween from to ns × IfSome last (λ m. is_between from to m ≡ true)
are_between_popped from to ms ns last e all = All-pop (λ m. is_between from to m ≡ true) ms ns last e all
