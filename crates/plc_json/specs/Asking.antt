-- What a text asks for: one command, or a command or a question of a console; and why it asks for none.
use Rattle.std.specs.Prelude.{◌≡◌, ◌≤◌, ℕ, List, Option, Some, option_and_then, codes, IsUtf8, Vec, None, option_map}
use Rattle.std.specs.Prelude.{bytes_eq, if◌then◌else◌, map, String, string_bytes}
use Rattle.std.specs.Global.{Global}
use Rattle.std.specs.List.{AllByRecursion}
use Rattle.serde_json.specs.Errors.{IsMemory}
use Rattle.serde_json.specs.declared.error.Error.{Error}
use Rattle.hex.specs.declared.error.FromHexError.{FromHexError}
use Rattle.hex.specs.declared.error.FromHexError.TheVariants.{OutOfMemory}
use Rattle.serde_json.specs.Data.{Data, depth, object, member, no_members, string}
use Rattle.serde_json.specs.Read.{read as read_text, max_depth}
use Rattle.serde_json.specs.Find.{as_array, as_object, as_str}
use Rattle.il_model.specs.declared.command.Command.TheVariants.{Change}
use Rattle.plc_json.specs.declared.command.JsonFault.{JsonFault}
use Rattle.plc_json.specs.declared.command.JsonFault.TheVariants.{Shape, Memory}
use Rattle.plc_json.specs.declared.command.NamedCommand.{NamedCommand}
use Rattle.plc_json.specs.declared.command.NamedCommand.TheVariants.{Plain}
use Rattle.plc_json.specs.declared.question.Asked.{Asked}
use Rattle.plc_json.specs.declared.question.Question.{Question}
use Rattle.plc_json.specs.declared.question.Question.TheVariants as questions
use Rattle.plc_json.specs.declared.question.Asked.TheVariants as asked
use Rattle.plc_json.specs.Commands.{Named, named, command_of, each_in, all_of, items_in, only_member}

-- ---- why a text gives no commands

-- want of memory stays that, and what is wrong with the text is a fault of its shape
abbrev pub IsFaultOf : Error → JsonFault → Type 0
IsFaultOf error fault = (IsMemory error → fault ≡ Memory) × (¬ IsMemory error → fault ≡ Shape)

-- the same of hex digits
abbrev pub digits_fault : FromHexError → JsonFault
digits_fault OutOfMemory = Memory
digits_fault error = Shape

-- ---- a text that is one command

-- the command of a text; an object's last member of a key is the one that counts
abbrev pub command_in : List ℕ → Option Named
command_in text = option_and_then command_of (read_text text)

-- the text is this command
abbrev pub HasCommand : List ℕ → NamedCommand → Type 0
HasCommand text c = IsUtf8 text × (command_in text ≡ Some (named c))

-- the text is the command that goes on with the program of this image
abbrev pub IsChange : List ℕ → List ℕ → Type 0
IsChange image text = HasCommand text (Plain (Change image))

-- a change as data, with this key and these hex digits
abbrev pub digits_data : List ℕ → List ℕ → Data
digits_data key digits = object (member key (string digits) no_members)

abbrev pub bytes_of : Vec ℕ Global → List ℕ
bytes_of v = v.items

-- no value nests deeper than values of texts may
abbrev pub NestWithin : List Data → Type 0
NestWithin ds = AllByRecursion (λ d. depth d ≤ max_depth) ds

-- ---- what a console is asked: a command, or a question, which is a word alone or names to watch

-- a question, its names as their bytes
pub data Query : Type 0 where
  Forces : Query
  Breaks : Query
  Program : Query
  Image : Query
  Status : Query
  Values : Query
  Watch : List (List ℕ) → Query

abbrev pub spelled_names : Vec (String Global) Global → List (List ℕ)
spelled_names names = map string_bytes names.items

abbrev pub query : Question → Query
query questions.Forces = Forces
query questions.Breaks = Breaks
query questions.Program = Program
query questions.Image = Image
query questions.Status = Status
query questions.Values = Values
query (questions.Watch names) = Watch (spelled_names names)

-- what a console is asked, its names as their bytes
pub data Asking : Type 0 where
  Do : Named → Asking
  Tell : Query → Asking

abbrev pub asking : Asked → Asking
asking (asked.Command command) = Do (named command)
asking (asked.Question question) = Tell (query question)

abbrev pub question_of : List ℕ → Option Query
question_of word = if bytes_eq word (codes "forces") then Some Forces else (
    if bytes_eq word (codes "breaks") then Some Breaks else (
    if bytes_eq word (codes "program") then Some Program else (
    if bytes_eq word (codes "image") then Some Image else (
    if bytes_eq word (codes "status") then Some Status else (
    if bytes_eq word (codes "values") then Some Values else None)))))

-- the strings of a list
abbrev pub names_in : Data → Option (List (List ℕ))
names_in d = option_and_then (λ items. all_of as_str (items_in items)) (as_array d)

abbrev pub watch_with : List ℕ × Data → Option Query
watch_with (key, d) = if bytes_eq key (codes "watch") then option_map Watch (names_in d) else None

-- an object with one member, whose key is watch and whose value is a list of names
abbrev pub watch_in : Data → Option Query
watch_in d = option_and_then watch_with (option_and_then only_member (as_object d))

abbrev pub question_by : Option (List ℕ) → Data → Option Query
question_by (Some word) d = question_of word
question_by None d = watch_in d

abbrev pub question_in : Data → Option Query
question_in d = question_by (as_str d) d

abbrev pub or_command : Option Query → Data → Option Asking
or_command (Some question) d = Some (Tell question)
or_command None d = option_map Do (command_of d)

abbrev pub asking_of : Data → Option Asking
asking_of d = or_command (question_in d) d

-- ---- texts

-- what one text asks; an object's last member of a key is the one that counts
abbrev pub asking_in : List ℕ → Option Asking
asking_in text = option_and_then asking_of (read_text text)

-- the text asks this
abbrev pub HasAsked : List ℕ → Asked → Type 0
HasAsked text a = IsUtf8 text × (asking_in text ≡ Some (asking a))

-- the text isn't UTF-8, or it asks nothing
abbrev pub HasNothing : List ℕ → Type 0
HasNothing text = IsUtf8 text → asking_in text ≡ None

-- what the text's array asks
abbrev pub askings_in : List ℕ → Option (List Asking)
askings_in text = each_in asking_of text

-- the text isn't UTF-8, or it is no list of what is asked
abbrev pub HasNoAskings : List ℕ → Type 0
HasNoAskings text = IsUtf8 text → askings_in text ≡ None

-- the text asks what this value does
abbrev pub SaysAsking : Data → List ℕ → Type 0
SaysAsking d text = (a : Asking) × (asking_of d ≡ Some a) × (asking_in text ≡ Some a)

-- As texts alone, these ask what these values do, in order.
abbrev pub SayAskings : List Data → List (List ℕ) → Type 0
SayAskings ds texts = (all : List Asking) × (all_of asking_of ds ≡ Some all) × (all_of asking_in texts ≡ Some all)

-- As texts alone, these ask what the text does, in order.
abbrev pub HasTexts : List ℕ → List (List ℕ) → Type 0
HasTexts text texts = IsUtf8 text × (all : List Asking) × (askings_in text ≡ Some all)
    × (all_of asking_in texts ≡ Some all)
