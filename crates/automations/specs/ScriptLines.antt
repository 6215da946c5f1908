-- What a script gives: its lines, and the bytes that a take before a packet has.
use Rattle.std.specs.Prelude.{◌≡◌, ℕ, ◌+◌, ◌-◌, Bool, true, List, [], ◌∷◌, ◌++◌, ◌&&◌, length, drop, slice_range, ◌==◌, nat_lt, nat_le, if◌then◌else◌, Option, option_map, find, count_by}
use Rattle.std.specs.List.{list_all}
use Rattle.automations.specs.declared.script.LateLines.{LateLines}
use Rattle.automations.specs.declared.script.Script.{Script}
use Rattle.automations.specs.declared.script_text.Line.{Line}

-- a line of a script: the number of a packet of the network, from 0, and the bytes that come before it
pub record ScriptLine : Type 0 where
  pub packet : ℕ
  pub bytes : List ℕ

-- the bytes of the line of this packet; none where no line is
abbrev pub bytes_before : ℕ → List ScriptLine → List ℕ
bytes_before packet [] = []
bytes_before packet (line ∷ lines) = if line.packet == packet then line.bytes else bytes_before packet lines

-- the lines whose bytes stand one after another, from this place on, each up to its end
abbrev pub lines_from : List ℕ → ℕ → List Line → List ScriptLine
lines_from bytes begin [] = []
lines_from bytes begin (l ∷ ls) =
    record { packet = l.packet; bytes = slice_range bytes begin l.end } ∷ lines_from bytes l.end ls

-- each of these lines, the first of which begins here, has 1 to 4,096 of so many bytes, and their numbers rise, from this one on
abbrev pub are_sound : ℕ → ℕ → ℕ → List Line → Bool
are_sound begin total least [] = true
are_sound begin total least (l ∷ ls) =
    nat_lt begin l.end && (nat_le l.end total && (nat_le (l.end - begin) 4096
    && (nat_le least l.packet && are_sound l.end total (l.packet + 1) ls)))

-- how many bytes of the line that comes next are due before this packet
abbrev pub count_due : ℕ → ℕ → List Line → ℕ
count_due begin packet [] = 0
count_due begin packet (l ∷ ls) = if nat_lt packet l.packet then 0 else l.end - begin

-- lines of packets before this one
abbrev pub are_past : ℕ → List ScriptLine → Bool
are_past packet = list_all (λ l. nat_lt l.packet packet)

-- OF A SCRIPT these bytes and lines are left, from this place on, behind the pieces before so many packets
pub record GivesFrom (bytes : List ℕ) (begin packet : ℕ) (left : List Line) (script : List ScriptLine) : Type 0 where
  pub past : List ScriptLine
  pub whole : script ≡ past ++ lines_from bytes begin left
  pub given : are_past packet past ≡ true
  pub sound : are_sound begin (length bytes) packet left ≡ true

abbrev pub GivesLines : {W M : Type 0} → Script W M → List ScriptLine → Type 0
GivesLines s script = GivesFrom s.bytes.items s.begin s.packet (drop s.next s.lines.items) script

-- the line is of no packet of a network of so many: its bytes never come
abbrev pub is_late : ℕ → Line → Bool
is_late packets l = nat_le packets l.packet

-- how many lines are late, and the packet of the first of them, where any is
abbrev pub late_lines : ℕ → List Line → Option LateLines
late_lines packets lines =
    option_map (λ (first : Line). record { count = count_by (is_late packets) lines; first = first.packet }) (find (is_late packets) lines)
