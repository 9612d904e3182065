-- Behind the marks the message is read that was spelled, and no two bases have one spelling.
use Rattle.std.proofs.Common.{◌≡◌, ◌<◌, ℕ, Bool, true, false, List, ◌++◌, length, drop, Option, Some, None, MatchOption, sym, ap, ap₂, subst, ◌∙◌, arith, length-append}
use Rattle.std.specs.Prelude.{IsTrue, ◌↔◌}
use Rattle.std.proofs.lemmas.List.{drop_at}
use Rattle.std.proofs.lemmas.Option.{same_Some}
use Rattle.vr_model.specs.Checkpoints.{KeptLog}
use Rattle.vr_model.specs.declared.event.Event.{Event}
use Rattle.vr_model.specs.declared.event.Event.TheVariants as event
use Rattle.vr_model.specs.declared.message.Message as sent
use Rattle.vr_model.specs.declared.message.Body.{Body}
use Rattle.vr_model.specs.declared.message.Body.TheVariants as says
use Rattle.vr_kept.specs.Inputs.{IsOf, IsOfNone, ReadBack, input_bytes}
use Rattle.vr_pausing.specs.declared.marking.Marks.{Marks}
use Rattle.vr_bases.specs.declared.base.Base.{Base}
use Rattle.vr_bases.specs.declared.base.Told.{Told}
use Rattle.vr_bases.specs.Spelling.{marks_bytes, told, FitsMarks, IsBase, OneBase, is_read}
use Rattle.vr_bases.proofs.Numbers.{marks_long, marks_read}

rest_is : (bytes : List ℕ) (m : Marks) (log : KeptLog) → FitsMarks m → IsBase bytes m log → drop 136 bytes ≡ input_bytes (event.Message (told m log))
rest_is bytes m log fits is = ap (drop 136) (sym is.bytes_are) ∙ drop_at (marks_bytes m) (input_bytes (event.Message (told m log))) 136 (marks_long m fits)

pub told_behind : ReadBack → (bytes rest : List ℕ) (m : Marks) (log : KeptLog) (e : Option Event) → rest ≡ drop 136 bytes → FitsMarks m → IsBase bytes m log → MatchOption e (IsOfNone rest) (λ x. IsOf rest x) → e ≡ Some (event.Message (told m log))
told_behind law bytes rest m log None behind fits is read =
    absurd (read (event.Message (told m log)) (record { kept = is.framed; bytes_are = sym (behind ∙ rest_is bytes m log fits is) }))
told_behind law bytes rest m log (Some x) behind fits is read =
    ap Some (law.one x (event.Message (told m log)) read.kept is.framed (read.bytes_are ∙ behind ∙ rest_is bytes m log fits is))

pub base_read : (bytes : List ℕ) (m : Marks) (log : KeptLog) → FitsMarks m → IsBase bytes m log → is_read bytes m.view m.last_normal_view m.commit_number log ≡ record { marks = m; log = log }
base_read bytes m log fits is = marks_read m log bytes (input_bytes (event.Message (told m log))) fits (sym is.bytes_are)

-- what is told by it, and what would be made of that
pub read_whole : (bytes : List ℕ) (m : Marks) (log : KeptLog) (found : Option Told) (t : Told) (made : Base) → FitsMarks m → IsBase bytes m log
    → found ≡ Some (record { view = m.view; last_normal_view = m.last_normal_view; commit_number = m.commit_number; log = log }) → found ≡ Some t
    → made ≡ is_read bytes t.view t.last_normal_view t.commit_number t.log → made ≡ record { marks = m; log = log }
read_whole bytes m log found t made fits is all one by =
    by ∙ ap (λ (x : Told). is_read bytes x.view x.last_normal_view x.commit_number x.log) (same_Some t (record { view = m.view; last_normal_view = m.last_normal_view; commit_number = m.commit_number; log = log }) (sym one ∙ all))
    ∙ base_read bytes m log fits is

pub none_found : (found : Option Told) (t : Told) → found ≡ Some t → found ≡ None → ⊥
none_found found t some none = let e : Some t ≡ None = sym some ∙ none in absurd cc

-- fewer bytes than the marks have are no base
pub too_short : (bytes : List ℕ) (m : Marks) (log : KeptLog) → FitsMarks m → IsBase bytes m log → length bytes < 136 → ⊥
too_short bytes m log fits is short =
    let whole : length (marks_bytes m ++ input_bytes (event.Message (told m log))) ≡ length bytes = ap length is.bytes_are in
    absurd (omega (arith, whole, marks_long m fits, length-append (marks_bytes m) (input_bytes (event.Message (told m log)))))

-- bytes that are those of a base are its
pub same_bytes : (spelled bytes : List ℕ) (m : Marks) (log : KeptLog) (b : Bool) → IsBase spelled m log → (IsTrue b ↔ (spelled ≡ bytes)) → IsTrue b ↔ IsBase bytes m log
same_bytes spelled bytes m log b own same = (
  λ t. record { framed = own.framed; bytes_are = own.bytes_are ∙ same.0 t },
  λ other. same.1 (sym own.bytes_are ∙ other.bytes_are),
)

-- whoever is found of a base is that, and is it
pub found_is : (bytes : List ℕ) (m : Marks) (log : KeptLog) (found : Option Base) (b : Base) → found ≡ Some b → found ≡ Some (record { marks = m; log = log }) → IsBase bytes m log → IsBase bytes b.marks b.log
found_is bytes m log found b one all is =
    subst (λ (x : Base). IsBase bytes x.marks x.log) (same_Some (record { marks = m; log = log }) b (sym all ∙ one)) is

pub not_both : (b : Bool) → IsTrue b → b ≡ false → ⊥
not_both true t f = absurd cc
not_both false t f = absurd cc

-- ---- one base

abbrev log_of : Body → KeptLog → KeptLog
log_of (says.DoViewChange view last commit log) other = log
log_of _ other = other

abbrev view_of : Body → ℕ
view_of (says.DoViewChange view last commit log) = view
view_of _ = 0

abbrev last_of : Body → ℕ
last_of (says.DoViewChange view last commit log) = last
last_of _ = 0

abbrev commit_of : Body → ℕ
commit_of (says.DoViewChange view last commit log) = commit
commit_of _ = 0

abbrev body_of : Event → Body → Body
body_of (event.Message m) other = m.body
body_of _ other = other

pub one_base : ReadBack → OneBase
one_base law bytes m n log other fits fits_other is is_other = (ap (λ (b : Base). b.marks) whole, ap (λ (b : Base). b.log) whole)
  where
    events : event.Message (told m log) ≡ event.Message (told n other)
    events = law.one (event.Message (told m log)) (event.Message (told n other)) is.framed is_other.framed (sym (rest_is bytes m log fits is) ∙ rest_is bytes n other fits_other is_other)

    bodies : (told m log).body ≡ (told n other).body
    bodies = ap (λ (e : Event). body_of e (told m log).body) events

    logs : log ≡ other
    logs = ap (λ (b : Body). log_of b log) bodies

    views : m.view ≡ n.view
    views = ap view_of bodies

    lasts : m.last_normal_view ≡ n.last_normal_view
    lasts = ap last_of bodies

    commits : m.commit_number ≡ n.commit_number
    commits = ap commit_of bodies

    read_as : ℕ → ℕ → ℕ → KeptLog → Base
    read_as a b c l = is_read bytes a b c l

    whole : ◌≡◌ {A = Base} (record { marks = m; log = log }) (record { marks = n; log = other })
    whole =
        sym (base_read bytes m log fits is)
        ∙ ap₂ (λ (a b : ℕ). read_as a b m.commit_number log) views lasts
        ∙ ap₂ (λ (c : ℕ) (l : KeptLog). read_as n.view n.last_normal_view c l) commits logs
        ∙ base_read bytes n other fits_other is_other
