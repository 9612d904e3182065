use Rattle.std.proofs.Common.{◌≡◌, ℕ, List, [], ◌∷◌, ◌++◌, ap, ◌∙◌, append_assoc}
use Rattle.sha2.specs.Sha256.{sha256}
use Rattle.net_hello.proofs.identity.group_identity.Goals as goal

-- five pieces, one behind the other
regroup : (f b e r n b' e' : List ℕ) → b ≡ b' → e ≡ e' → ((((([] ++ f) ++ b) ++ e) ++ r) ++ n) ≡ f ++ (b' ++ (e' ++ (r ++ n)))
regroup f b e r n b' e' p q = rw (p, q) (simp append_assoc)

pub returns : goal.returns
returns c =
    let fed = c.update-5.ensures _ (c.update-4.ensures _ (c.update-3.ensures _ (c.update-2.ensures _ (c.update.ensures _ c.new-hasher.ensures)))) in
    c.finalize.ensures _ fed ∙ ap sha256 (regroup (c.args.config.f ∷ []) _ _ c.args.drawn.now c.args.name.now _ _ c.to_be_bytes.ensures c.to_be_bytes-2.ensures)
