use Rattle.std.proofs.Common.{inl, refl, ◌≡◌, ◌==◌, false}
use Rattle.std.proofs.lemmas.Bool.{ne_eqb}
use Rattle.vr_threads.proofs.starting.start_from.Goals as goal

-- a later start: the replica is down, to come up with the number of starts as its nonce
pub returns-in_ok-down-in-Ok-2 : goal.returns-in_ok-down-in-Ok-2
returns-in_ok-down-in-Ok-2 g c =
    let later : (c.in-Ok.stored.starts == 1) ≡ false = ne_eqb c.in-Ok.stored.starts 1 c.if-stored-eq1.false in
    inl (c.in-Ok.stored, c.in-Ok.ensures.gives, refl, rw later (refl, c.in_ok-down-in-Ok-2.ensures))
