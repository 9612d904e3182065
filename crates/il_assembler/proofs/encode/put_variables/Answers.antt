use Rattle.std.proofs.Common.{◌≡◌, ℕ, zero, suc, ◌<◌, Bool, true, false, List, [], ◌∷◌, length, get_or, refl, sym, subst, arith}
use Rattle.std.specs.List.{list_all}
use Rattle.std.specs.Prelude.{◌&&◌}
use Rattle.il_model.specs.Image.{may_declare}
use Rattle.il_model.specs.declared.program.Variable.{Variable}
use Rattle.il_assembler.proofs.encode.put_variables.Goals as goal

left : (a b : Bool) → (a && b) ≡ true → a ≡ true
left true b h = refl
left false b h = h

right : (a b : Bool) → (a && b) ≡ true → b ≡ true
right true b h = h
right false b h = absurd cc

-- each item of a list passes a test that all of them pass
each : (p : Variable → Bool) (vs : List Variable) (i : ℕ) (v : Variable) → list_all p vs ≡ true → i < length vs → v ≡ get_or vs i v → p v ≡ true
each p [] i v all lt at = absurd (omega (arith, lt))
each p (w ∷ vs) zero v all lt at = subst (λ x. p x ≡ true) (sym at) (left (p w) (list_all p vs) all)
each p (w ∷ vs) (suc i) v all lt at = each p vs i v (right (p w) (list_all p vs) all) (omega (arith, lt)) at

pub put_variable-requires : goal.put_variable-requires
put_variable-requires c = each (may_declare c.args.version) c.args.vs.now c.loop-v.v-index c.v-item.result c.requires c.loop-v-test.true c.v-item.is
