-- What a file of the machine's disk may have, by what was read of it and put there.
use Rattle.std.specs.Prelude.{◌≡◌, ◌⊎◌, false, true, None, refl}
use Rattle.std.proofs.Common.{inl}
use Rattle.std.proofs.lemmas.Bool.{false≢true}
use Rattle.io_shelf.specs.Shelves.{Content, content_of}
use Rattle.io_shelf.specs.declared.held.Held.{Held}
use Rattle.io_shelf.specs.declared.held.Held.TheVariants.{Unknown, One, OneOf}

abbrev pub IsOneOf : Held → Content → Type 0
IsOneOf Unknown c = Unit {0}
IsOneOf (One a) c = c ≡ content_of a
IsOneOf (OneOf a b) c = (c ≡ content_of a) ⊎ (c ≡ content_of b)

-- a change failed, and the file was not read since
abbrev pub IsUnread : Held → Type 0
IsUnread Unknown = ⊥
IsUnread (One a) = ⊥
IsUnread (OneOf a b) = Unit {0}

-- there is always one
pub one_of : (held : Held) → (c : Content) × IsOneOf held c
one_of Unknown = (None, tt)
one_of (One a) = (content_of a, refl)
one_of (OneOf a b) = (content_of a, inl refl)

-- a file of the machine's disk tells no moments
pub untold : {P : Type 0} → false ≡ true → P
untold told = absurd (false≢true told)
