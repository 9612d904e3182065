-- What is sent to a console, and what comes in answer.
use Rattle.std.specs.Prelude.{◌≡◌, ◌⊎◌, ◌↔◌, ℕ, nat_eq, Bool, true, List, [], ◌∷◌, ◌++◌}
use Rattle.std.specs.Prelude.{if◌then◌else◌, codes, Contains, Option, Vec}
use Rattle.std.specs.List.{starts_with}
use Rattle.std.specs.Global.{Global}
use Rattle.std.specs.Io.KnownBytes.{Appends, Consumes, IsAtEnd}
use Rattle.io_model.specs.Streams.{Failed}
use Rattle.plc_console.specs.declared.sending.Reply.{Reply}
use Rattle.plc_console.specs.declared.sending.Reply.TheVariants as replies
use Rattle.plc_console.specs.Lines.{line_end}

abbrev pub item_bytes : Vec ℕ Global → List ℕ
item_bytes bytes = bytes.items

-- what the line of an answer says of its command
abbrev pub reply_to : List ℕ → Reply
reply_to answer = if starts_with nat_eq answer (codes "plc: ") then replies.NoCommand
    else (if starts_with nat_eq answer (codes "refused ") then replies.Refused else replies.Done)

-- what is to be said of all these together: the worst of them, done where there's none; a reply that is no command is
-- worse than one that was refused
pub record IsWorst (all : List Reply) (worst : Reply) : Type 0 where
  pub among : (worst ≡ replies.Done) ⊎ Contains all worst
  pub no_command : Contains all replies.NoCommand → worst ≡ replies.NoCommand
  pub refused : Contains all replies.Refused → (worst ≡ replies.Refused) ⊎ (worst ≡ replies.NoCommand)

-- these bytes end a line
abbrev pub EndsLine : List ℕ → Type 0
EndsLine bytes = (before : List ℕ) × (bytes ≡ before ++ line_end ∷ [])

-- A command was sent as a line; its answer, which ends a line, was read and printed, and says this.
pub record AskedOne (command : List ℕ) (reply : Reply) (left left' held held' out out' : Option (List ℕ)) : Type 0 where
  pub sent : Appends held held' (command ++ line_end ∷ [])
  pub answer : List ℕ
  pub ends : EndsLine answer
  pub read : Consumes left left' answer
  pub printed : Appends out out' answer
  pub says : reply ≡ reply_to answer

-- Each of these was sent and its answer printed, one behind the other; the answers say this.
abbrev pub Asked : List (List ℕ) → List Reply → Option (List ℕ) → Option (List ℕ) → Option (List ℕ)
    → Option (List ℕ) → Option (List ℕ) → Option (List ℕ) → Type 0
Asked [] [] left left' held held' out out' = Consumes left left' [] × (Appends held held' [] × Appends out out' [])
Asked (command ∷ commands) (reply ∷ replies) left left' held held' out out' =
    (left1 : Option (List ℕ)) × (held1 : Option (List ℕ)) × (out1 : Option (List ℕ))
    × AskedOne command reply left left1 held held1 out out1 × Asked commands replies left1 left' held1 held' out1 out'
Asked _ _ left left' held held' out out' = ⊥

-- A key was sent as a line, and its answer, which ends a line, was read: it's taken exactly if that says that it's done.
pub record TellsKey (key : List ℕ) (is_taken : Bool) (left left' held held' : Option (List ℕ)) : Type 0 where
  pub sent : Appends held held' (key ++ line_end ∷ [])
  pub answer : List ℕ
  pub ends : EndsLine answer
  pub read : Consumes left left' answer
  pub taken : (is_taken ≡ true) ↔ (answer ≡ codes "done\n")

-- why nothing more was read: the reader failed, or came to its end
abbrev pub IsUnread : Option (List ℕ) → ℕ → ℕ → Type 0
IsUnread left' r r' = Failed r r' ⊎ IsAtEnd left'

-- why not each command was answered: the reader failed or came to its end, or one of the writers failed
abbrev pub IsWhyBroken : Option (List ℕ) → ℕ → ℕ → ℕ → ℕ → ℕ → ℕ → Type 0
IsWhyBroken left' r r' w w' o o' = IsUnread left' r r' ⊎ (Failed w w' ⊎ Failed o o')
