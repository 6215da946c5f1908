-- What an assembler stands for.
use Rattle.std.specs.Prelude.{◌≡◌, ℕ, ◌+◌, ◌-◌, ◌^◌, ◌⊎◌, List, [], false, min, filter, count_by}
use Rattle.ts_packet.specs.Fields.{in_error, pid_of}
use Rattle.ts_packet.specs.Duplicates.{last_of}
use Rattle.psi_section.specs.declared.front.Front.TheVariants.{Part}
use Rattle.psi_section.specs.declared.assembler.Assembler.{Assembler}
use Rattle.psi_section.specs.Sections.{front_of, taken, held, failed, is_good, is_bad}
use Rattle.psi_section.specs.Storing.{content}

-- the packet is of the PID, or marked in error, when its PID is not to be relied on
abbrev pub IsOf : ℕ → List ℕ → Type 0
IsOf pid p = in_error p ≡ false → pid_of p ≡ pid

-- there are no bytes, or they are a part of a section
abbrev pub IsPart : List ℕ → Type 0
IsPart bs = (bs ≡ []) ⊎ (front_of bs ≡ Part)

-- no section waits: all were passed over, or nothing was fed yet
abbrev pub IsReady : Assembler → Type 0
IsReady a = IsPart (content a.store)

-- a count that stops at the greatest
abbrev pub capped : ℕ → ℕ
capped n = min n (2 ^ 64 - 1)

-- the sections that are still to be given
abbrev pub left : Assembler → List (List ℕ)
left a = filter is_good (taken (content a.store)).finished

-- how many of the sections that are not passed over yet have a CRC_32 that fails
abbrev pub bad_left : Assembler → ℕ
bad_left a = count_by is_bad (taken (content a.store)).finished

-- The assembler has been fed this past, newest first, and its sections are passed over.
pub record Waits (a : Assembler) (pid : ℕ) (past : List (List ℕ)) : Type 0 where
  pub last : a.last ≡ last_of pid past
  pub part : content a.store ≡ held pid past
  pub ready : IsReady a
  pub bad : a.bad ≡ capped (failed pid past)

-- The assembler has been fed this past, and these of its sections are still to be given.
pub record StillGives (a : Assembler) (pid : ℕ) (past todo : List (List ℕ)) : Type 0 where
  pub last : a.last ≡ last_of pid past
  pub part : (taken (content a.store)).part ≡ held pid past
  pub todo_left : left a ≡ todo
  pub counted : ℕ
  pub all : bad_left a + counted ≡ failed pid past
  pub bad : a.bad ≡ capped counted
