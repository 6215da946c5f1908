-- What the options of `request` say, and why they are not taken: each field of a message (ANSI/SCTE 104) is read by its own name.
use Rattle.std.specs.Prelude.{◌≡◌, ◌≢◌, ℕ, ◌^◌, List, true, false, Bool, Option, Some, None, codes}
use Rattle.clap.specs.declared.parser.matches.ArgMatches.{ArgMatches}
use Rattle.decimal_numbers.specs.Numbers.{number_below}
use Rattle.scte104_codec.specs.declared.head.Head.{Head}
use Rattle.request_texts.specs.declared.requests.BreakStart.{BreakStart}
use Rattle.request_texts.specs.declared.requests.BreakEnd.{BreakEnd}
use Rattle.request_texts.specs.declared.requests.RequestKind.{RequestKind}
use Rattle.request_texts.specs.declared.requests.RequestKind.TheVariants.{Start, End, Cancel, Init, Alive}
use Rattle.request_texts.specs.declared.lines.RequestLine.{RequestLine}
use Rattle.command_lines.specs.Options.{given}
use Rattle.command_lines.specs.declared.request_options.BadRequest.{BadRequest}
use Rattle.command_lines.specs.declared.request_options.BadRequest.TheVariants.{Number, Missing, AutoReturn, Kind}
use Rattle.command_lines.specs.declared.request_options.FieldOption.{FieldOption}
use Rattle.command_lines.specs.declared.request_options.FieldOption.TheVariants.{Index, AsIndex, Message, Mark, Event}
use Rattle.command_lines.specs.declared.request_options.FieldOption.TheVariants.{ProgramId, PreRoll, Duration, Avail, Avails}

-- what an option is called
abbrev pub field_name : FieldOption → List ℕ
field_name Index = codes "index"
field_name AsIndex = codes "as-index"
field_name Message = codes "message"
field_name Mark = codes "mark"
field_name Event = codes "event"
field_name ProgramId = codes "program-id"
field_name PreRoll = codes "pre-roll"
field_name Duration = codes "duration"
field_name Avail = codes "avail"
field_name Avails = codes "avails"

-- the first number that its field does not hold, of one, two or four bytes; of a mark, which is no field, 2 ^ 63
abbrev pub field_limit : FieldOption → ℕ
field_limit Index = 65536
field_limit AsIndex = 256
field_limit Message = 256
field_limit Mark = 2 ^ 63
field_limit Event = 2 ^ 32
field_limit ProgramId = 65536
field_limit PreRoll = 65536
field_limit Duration = 65536
field_limit Avail = 256
field_limit Avails = 256

-- the number of a text that may be missing, which is this where it is
abbrev pub number_or : Option (List ℕ) → ℕ → ℕ → Option ℕ
number_or None otherwise limit = Some otherwise
number_or (Some text) otherwise limit = number_below text limit

-- the number that was given for an option, or this where none was
abbrev pub field_number : ArgMatches → FieldOption → ℕ → Option ℕ
field_number matches option otherwise = number_or (given matches (field_name option)) otherwise (field_limit option)

-- the number of a text that may not be missing
abbrev pub number_there : Option (List ℕ) → ℕ → Option ℕ
number_there None limit = None
number_there (Some text) limit = number_below text limit

-- the number that has to be given for an option
abbrev pub asked_number : ArgMatches → FieldOption → Option ℕ
asked_number matches option = number_there (given matches (field_name option)) (field_limit option)

-- a break has no number in place of one that is not given for these
abbrev pub is_needed : FieldOption → Bool
is_needed Index = false
is_needed AsIndex = false
is_needed Message = false
is_needed Mark = false
is_needed Event = true
is_needed ProgramId = true
is_needed PreRoll = true
is_needed Duration = true
is_needed Avail = false
is_needed Avails = false

-- whether a break is to end by itself: it is where nothing is said of it
abbrev pub IsReturn : Option (List ℕ) → Bool → Type 0
IsReturn None returns = returns ≡ true
IsReturn (Some text) true = text ≡ codes "on"
IsReturn (Some text) false = text ≡ codes "off"

-- ---- what is to be printed

-- the mark, where one is given
abbrev pub IsMark : Option (List ℕ) → Option ℕ → Type 0
IsMark None mark = mark ≡ None
IsMark (Some text) mark = (number_below text (2 ^ 63) ≡ mark) × (mark ≢ None)

abbrev pub IsMarkOf : ArgMatches → Option ℕ → Type 0
IsMarkOf matches mark = IsMark (given matches (codes "mark")) mark

-- message_number is 1 where none is given, and AS_index and DPI_PID_index are 0
pub record IsHeadOf (matches : ArgMatches) (head : Head) : Type 0 where
  pub as_index : field_number matches AsIndex 0 ≡ Some head.as_index
  pub number : field_number matches Message 1 ≡ Some head.number
  pub index : field_number matches Index 0 ≡ Some head.index

-- avail_num and avails_expected are 0 where none is given
pub record IsStartOf (matches : ArgMatches) (start : BreakStart) : Type 0 where
  pub event : asked_number matches Event ≡ Some start.event
  pub program_id : asked_number matches ProgramId ≡ Some start.program_id
  pub pre_roll : asked_number matches PreRoll ≡ Some start.pre_roll
  pub duration : asked_number matches Duration ≡ Some start.duration
  pub avail : field_number matches Avail 0 ≡ Some start.avail
  pub avails : field_number matches Avails 0 ≡ Some start.avails
  pub auto_return : IsReturn (given matches (codes "auto-return")) start.auto_return

pub record IsEndOf (matches : ArgMatches) (end : BreakEnd) : Type 0 where
  pub event : asked_number matches Event ≡ Some end.event
  pub pre_roll : asked_number matches PreRoll ≡ Some end.pre_roll

-- the kind is that of the name, with its own fields
abbrev pub IsKindOf : List ℕ → ArgMatches → RequestKind → Type 0
IsKindOf name matches (Start start) = (name ≡ codes "start") × IsStartOf matches start
IsKindOf name matches (End end) = (name ≡ codes "end") × IsEndOf matches end
IsKindOf name matches (Cancel event) = (name ≡ codes "cancel") × (asked_number matches Event ≡ Some event)
IsKindOf name matches Init = name ≡ codes "init"
IsKindOf name matches Alive = name ≡ codes "alive"

-- THE LINE is the one that a kind of this name and its options ask for
pub record IsRequestOf (name : List ℕ) (matches : ArgMatches) (line : RequestLine) : Type 0 where
  pub mark : IsMarkOf matches line.mark
  pub head : IsHeadOf matches line.head
  pub kind : IsKindOf name matches line.kind

-- ---- why they are not taken

-- the text of this option is no number in its range
abbrev pub IsRefusedField : FieldOption → List ℕ → BadRequest → Type 0
IsRefusedField option text (Number bad) = (bad.option ≡ option) × (bad.text.now ≡ text) × (number_below text (field_limit option) ≡ None)
IsRefusedField option text (Missing bad) = ⊥
IsRefusedField option text (AutoReturn bad) = ⊥
IsRefusedField option text (Kind name) = ⊥

-- the text that is given for an option is no number in its range; or there is none, and one is needed; or that of auto_return is none of its
-- two; or the kind is none of the five
abbrev pub IsNoRequest : ArgMatches → BadRequest → Type 0
IsNoRequest matches (Number bad) =
    (given matches (field_name bad.option) ≡ Some bad.text.now) × (number_below bad.text.now (field_limit bad.option) ≡ None)
IsNoRequest matches (Missing option) = (given matches (field_name option) ≡ None) × (is_needed option ≡ true)
IsNoRequest matches (AutoReturn text) =
    (given matches (codes "auto-return") ≡ Some text.now) × (text.now ≢ codes "on") × (text.now ≢ codes "off")
IsNoRequest matches (Kind name) = (name.now ≢ codes "start") × (name.now ≢ codes "end") × (name.now ≢ codes "cancel")
    × (name.now ≢ codes "init") × (name.now ≢ codes "alive")
