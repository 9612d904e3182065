-- One part more of what tokens spell.
use Rattle.std.proofs.Common.{◌≡◌, ℕ, Bool, true, false, List, [], ◌∷◌, Option, Some, refl, sym, ap, ◌∙◌, subst}
use Rattle.il_model.specs.declared.dialect.Dialect.{Dialect}
use Rattle.il_reader.specs.declared.contents.Operator.{Operator}
use Rattle.il_reader.specs.declared.lexeme.Sign.TheVariants as signs
use Rattle.il_reader.specs.Tokens.{Token, tokens_of}
use Rattle.il_reader.specs.Front.{is_sign, skip_breaks}
use Rattle.il_reader.specs.Spelling.{Part, breaks, one, this, operator, ahead, Spell}
use Rattle.laws_listing.proofs.Written.{token_at}

-- tokens that begin with a token, which is no line end
pub record Begins (ts : List Token) (x : Token) (more : List Token) : Type 0 where
  pub is : ts ≡ x ∷ more
  pub solid : is_sign signs.Break x ≡ false

pub spell_same : (ps : List Part) (ts us rest : List Token) → ts ≡ us → Spell ps us rest → Spell ps ts rest
spell_same ps ts us rest e h = subst (λ (xs : List Token). Spell ps xs rest) (sym e) h

pub spell_this : (p : Token → Bool) (x : Token) (ps : List Part) (ts more rest : List Token) → ts ≡ x ∷ more → p x ≡ true → Spell ps more rest → Spell (this p x ∷ ps) ts rest
spell_this p x ps ts more rest e is h = spell_same (this p x ∷ ps) ts (x ∷ more) rest e ((is, refl), h)

pub spell_one : (p : Token → Bool) (x : Token) (ps : List Part) (ts more rest : List Token) → ts ≡ x ∷ more → p x ≡ true → Spell ps more rest → Spell (one p ∷ ps) ts rest
spell_one p x ps ts more rest e is h = spell_same (one p ∷ ps) ts (x ∷ more) rest e (is, h)

pub spell_operator : (f : Token → Option Operator) (o : Operator) (x : Token) (ps : List Part) (ts more rest : List Token) → ts ≡ x ∷ more → f x ≡ Some o → Spell ps more rest → Spell (operator f o ∷ ps) ts rest
spell_operator f o x ps ts more rest e is h = spell_same (operator f o ∷ ps) ts (x ∷ more) rest e (is, h)

pub spell_ahead : (p : List Token → Bool) (ps : List Part) (ts rest : List Token) → p ts ≡ true → Spell ps ts rest → Spell (ahead p ∷ ps) ts rest
spell_ahead p ps ts rest is h = (is, h)

solid_stays : (x : Token) (more : List Token) → is_sign signs.Break x ≡ false → skip_breaks (x ∷ more) ≡ x ∷ more
unfolding skip_breaks
solid_stays x more solid = rw solid refl

pub skip_none : (ts : List Token) (x : Token) (more : List Token) → Begins ts x more → skip_breaks ts ≡ ts
skip_none ts x more b = ap skip_breaks b.is ∙ solid_stays x more b.solid ∙ sym b.is

-- no line end stands here
pub spell_solid : (ps : List Part) (ts : List Token) (x : Token) (more rest : List Token) → Begins ts x more → Spell ps ts rest → Spell (breaks ∷ ps) ts rest
spell_solid ps ts x more rest b h = spell_same ps (skip_breaks ts) ts rest (skip_none ts x more b) h

pub skip_one : (dialect : Dialect) (bytes : List ℕ) (ts : List Token) (x : Token) (more : List Token) → ts ≡ token_at signs.Break (10 ∷ []) bytes ∷ tokens_of dialect bytes → Begins (tokens_of dialect bytes) x more → skip_breaks ts ≡ tokens_of dialect bytes
unfolding skip_breaks
skip_one dialect bytes ts x more e b = ap skip_breaks e ∙ skip_none (tokens_of dialect bytes) x more b

-- one line end stands here
pub spell_break : (dialect : Dialect) (ps : List Part) (ts : List Token) (bytes : List ℕ) (x : Token) (more rest : List Token) → ts ≡ token_at signs.Break (10 ∷ []) bytes ∷ tokens_of dialect bytes → Begins (tokens_of dialect bytes) x more → Spell ps (tokens_of dialect bytes) rest → Spell (breaks ∷ ps) ts rest
spell_break dialect ps ts bytes x more rest e b h = spell_same ps (skip_breaks ts) (tokens_of dialect bytes) rest (skip_one dialect bytes ts x more e b) h
