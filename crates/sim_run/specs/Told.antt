-- The lines that a run prints.
use Rattle.std.specs.Prelude.{◌≡◌, ◌++◌, ◌/◌, ℕ, List, Option, None, codes}
use Rattle.std.specs.Fmt.{decimal}
use Rattle.std.specs.Io.KnownBytes.{Appends}
use Rattle.vr_model.specs.Groups.{group_size}
use Rattle.sim_checker.specs.declared.journal.Line.{Line}
use Rattle.sim_checker.specs.declared.journal.What.{What}
use Rattle.sim_checker.specs.declared.journal.What.TheVariants as told
use Rattle.sim_checker.specs.declared.verdicts.Wrong.{Wrong}
use Rattle.sim_checker.specs.declared.verdicts.Wrong.TheVariants as wrongs
use Rattle.sim_run.specs.declared.summary.Summary.{Summary}

-- a number and a text, and what stands behind them
abbrev pub counted : ℕ → List ℕ → List ℕ → List ℕ
counted number text more = decimal number ++ (text ++ more)

-- ---- what was seen of a run that is as the table says

abbrev pub cold_starts_text : Summary → List ℕ
cold_starts_text summary =
    counted summary.tally.cold_starts (codes " cold starts within ")
    (counted (summary.tally.longest_cold / 1000) (codes " ms, epoch ") (decimal summary.epoch))

abbrev pub faults_text : Summary → List ℕ
faults_text summary =
    counted summary.tally.faults (codes " faults, ")
    (counted summary.tally.takeovers (codes " takeovers within ")
    (counted (summary.tally.longest_takeover / 1000) (codes " ms, ") (cold_starts_text summary)))

abbrev pub releases_text : Summary → List ℕ
releases_text summary =
    counted summary.tally.releases (codes " releases as the table says, ") (faults_text summary)

abbrev pub scans_text : Summary → List ℕ
scans_text summary = counted summary.scans (codes " scans, ") (releases_text summary)

abbrev pub seen_text : Summary → List ℕ
seen_text summary = counted (group_size summary.setup.config.f) (codes " machines, ") (scans_text summary)

abbrev pub summary_text : Summary → List ℕ
summary_text summary =
    codes "seed " ++ counted summary.setup.seed (codes " ran ")
    (counted (summary.time / 1000) (codes " ms in ")
    (counted summary.tally.happenings (codes " steps: ") (seen_text summary)))

abbrev pub summary_line : Summary → List ℕ
summary_line summary = summary_text summary ++ codes "\n"

-- ---- the first thing that is wrong, with its seed and step

abbrev pub wrong_words : Wrong → List ℕ
wrong_words wrongs.TwoHistories = codes "two histories"
wrong_words wrongs.Unseen = codes "unseen"
wrong_words wrongs.InputsFellBack = codes "inputs fell back"
wrong_words wrongs.MomentFellBack = codes "moment fell back"
wrong_words wrongs.MomentJumped = codes "moment jumped"
wrong_words wrongs.OtherOutput = codes "other output"
wrong_words wrongs.ReadWentBack = codes "read went back"
wrong_words wrongs.SlowTakeover = codes "slow takeover"
wrong_words wrongs.NoOutputs = codes "no outputs"
wrong_words wrongs.NotNormal = codes "not normal"
wrong_words wrongs.Hangs = codes "hangs"
wrong_words wrongs.Refused = codes "store refused"
wrong_words wrongs.SlowColdStart = codes "slow cold start"

abbrev pub difference_text : Summary → Wrong → List ℕ
difference_text summary wrong =
    codes "plc: seed " ++ counted summary.setup.seed (codes " step ")
    (counted summary.tally.happenings (codes " ") (wrong_words wrong))

abbrev pub difference_line : Summary → Wrong → List ℕ
difference_line summary wrong = difference_text summary wrong ++ codes "\n"

-- ---- what happened in a step: its number, microseconds, machine, word and a number

abbrev pub event_word : What → List ℕ
event_word told.Boots = codes "boots"
event_word told.Killed = codes "killed"
event_word told.Leaves = codes "leaves"
event_word told.Opens = codes "opens"
event_word told.Closes = codes "closes"
event_word told.Normal = codes "normal"
event_word told.Changes = codes "changes"
event_word told.Recovers = codes "recovers"
event_word told.Down = codes "down"
event_word told.Crash = codes "crash"
event_word told.Power = codes "power"
event_word told.Pause = codes "pause"
event_word told.Stop = codes "stop"
event_word told.Loss = codes "loss"
event_word told.Delay = codes "delay"
event_word told.Reorder = codes "reorder"
event_word told.Cut = codes "cut"
event_word told.OneWay = codes "one-way"
event_word told.Isolate = codes "isolate"
event_word told.DiskFull = codes "disk-full"
event_word told.DiskSlow = codes "disk-slow"
event_word told.DiskReadOnly = codes "disk-read-only"
event_word told.Heals = codes "heals"
event_word told.Strikes = codes "strikes"
event_word told.Dark = codes "dark"
event_word told.DiskLost = codes "disk-lost"
event_word told.Fails = codes "fails"
event_word told.Reached = codes "reached"

abbrev pub trace_text : ℕ → Line → List ℕ
trace_text step line =
    counted step (codes " ") (counted line.time (codes " ") (counted line.machine (codes " ")
    (event_word line.what ++ (codes " " ++ decimal line.number))))

-- ---- how a call ends

-- what was written last is the line of a run in which nothing is wrong
pub record EndsRight (held : Option (List ℕ)) : Type 0 where
  pub summary : Summary
  pub right : summary.wrong ≡ None
  pub before : Option (List ℕ)
  pub written : Appends before held (summary_line summary)
