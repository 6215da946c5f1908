-- One packet more: in the head of a network, at its end, and behind it.
use Rattle.std.proofs.Common.{◌≡◌, ℕ, List, [], ◌∷◌, ◌++◌, Bool, true, false, ◌&&◌, refl, sym, ap, ◌∙◌, Option, None, Some, if◌then◌else◌, length, drop}
use Rattle.std.specs.Option.{option_or}
use Rattle.std.specs.Prelude.{is_some, option_map, Result}
use Rattle.psi_tables.specs.ProgramMap.{ProgramMap}
use Rattle.psi_section.specs.Sections.{given}
use Rattle.scte35_codec.specs.Reading.{cue_of}
use Rattle.unit_stream.specs.Times.{high}
use Rattle.program_follower.specs.Program.{tables, first_map, known_map, behind_head, program_in, pids_of}
use Rattle.program_follower.specs.Following.{streams_of_program}
use Rattle.program_laws.proofs.StepLemmas.{tables_grow}
use Rattle.program_laws.proofs.HeadLemmas.{known_stays, nothing_behind}
use Rattle.event_table.specs.Standing.{Standing, on_line, arm_answer}
use Rattle.event_table.specs.declared.table.Armed.{Armed}
use Rattle.event_table.specs.declared.table.ArmRefusal.{ArmRefusal}
use Rattle.armed_events.specs.declared.asked.Asked.{Asked}
use Rattle.armed_events.specs.declared.asked.Asked.TheVariants.{Start, End, Cancel, Unfit, Nothing}
use Rattle.armed_events.specs.Asking.{asked_of}
use Rattle.armed_events.specs.Arming.{is_fresh, Ignore, by_arm_answer, change, standing_at, changed, Heard, with_section, with_sections, heard}
use Rattle.splice_plans.specs.Switching.{Setting, switched_at, streams_at, high_at, events_at, head_at, history_at, is_behind_head}
use Rattle.splice_plans.specs.Known.{behind_at, adverts_at}

-- ---- before there is a greatest time nothing is armed

start-none : (e : Standing) (b : Bool) (a : Result Armed ArmRefusal) → changed None (if b && false then by_arm_answer e a else Ignore) [] ≡ []
start-none e true a = refl
start-none e false a = refl

none-changed : (asked : Asked) → changed None (change None [] asked) [] ≡ []
none-changed (Start e) = let n = on_line None e in start-none n (is_fresh n) (arm_answer [] n)
none-changed (End id time) = refl
none-changed (Cancel id) = refl
none-changed Unfit = refl
none-changed Nothing = refl

none-heard : (ss : List (List ℕ)) (h : Heard) → h.events ≡ [] → (with_sections None ss h).events ≡ []
none-heard [] h none = none
none-heard (s ∷ ss) h none =
    none-heard ss (with_section None s h)
    (ap (λ es. changed None (change None (standing_at None es) (asked_of (cue_of s))) es) none ∙ none-changed (asked_of (cue_of s)))

module _ (k : Setting) where
  abbrev pub wanted : Option ℕ
  wanted = Some k.program

  -- ---- in the head

  module _ (past : List (List ℕ)) (none : known_map wanted past ≡ None) where
    pub none-switched : switched_at k past ≡ []
    none-switched = ap (λ o. pids_of (option_map program_in o)) none

    pub none-behind : behind_at k past ≡ []
    none-behind = nothing_behind wanted past none

    pub none-high : high_at k past ≡ None
    none-high = ap (high (switched_at k past)) none-behind

    -- the packet may end it
    pub first-behind : (p : List ℕ) → behind_at k (p ∷ past) ≡ []
    first-behind p = ap (λ o. if is_some o then p ∷ behind_head wanted past else []) none

    pub first-high : (p : List ℕ) → high_at k (p ∷ past) ≡ None
    first-high p = ap (high (switched_at k (p ∷ past))) (first-behind p)

    armed-first : (p : List ℕ) → events_at k past ≡ [] → events_at k (p ∷ past) ≡ []
    armed-first p before =
        ap (λ latest. (with_sections latest (given k.cue_pid p past) (heard k.cue_pid (high_at k) past)).events) none-high
        ∙ none-heard (given k.cue_pid p past) (heard k.cue_pid (high_at k) past) before

  known-first : (p : List ℕ) (past : List (List ℕ)) → known_map wanted (p ∷ past) ≡ None → known_map wanted past ≡ None
  known-first p past h = by (known_map wanted past) (first_map (tables wanted p past)) (sym (tables_grow wanted p past) ∙ h)
    where
      by : (x y : Option ProgramMap) → option_or x y ≡ None → x ≡ None
      by None y h = refl
      by (Some x) y h = cc

  pub none-armed : (past : List (List ℕ)) → known_map wanted past ≡ None → events_at k past ≡ []
  none-armed [] none = refl
  none-armed (p ∷ past) none = let n = known-first p past none in armed-first past n p (none-armed past n)

  pub first-armed : (p : List ℕ) (past : List (List ℕ)) → known_map wanted past ≡ None → events_at k (p ∷ past) ≡ []
  first-armed p past none = armed-first past none p (none-armed past none)

  -- ---- behind it

  module _ (p : List ℕ) (past : List (List ℕ)) (m : ProgramMap) (is : known_map wanted past ≡ Some m) where
    same-map : known_map wanted (p ∷ past) ≡ known_map wanted past
    same-map = known_stays wanted p past m is ∙ sym is

    pub is-behind : is_behind_head k past ≡ true
    is-behind = ap (λ o. is_some (option_map program_in o)) is

    pub same-switched : switched_at k (p ∷ past) ≡ switched_at k past
    same-switched = ap (λ o. pids_of (option_map program_in o)) same-map

    pub same-streams : streams_at k (p ∷ past) ≡ streams_at k past
    same-streams = ap (λ o. streams_of_program (option_map program_in o)) same-map

    pub same-adverts : adverts_at k (p ∷ past) ≡ adverts_at k past
    same-adverts = ap (λ s. k.adverts s) same-streams

    pub more-behind : behind_at k (p ∷ past) ≡ p ∷ behind_at k past
    more-behind = ap (λ o. if is_some o then p ∷ behind_head wanted past else []) is

    same-head : head_at k (p ∷ past) ≡ head_at k past
    same-head = ap (λ (l : List (List ℕ)). drop (length l) (p ∷ past)) more-behind

    pub same-history : history_at k (p ∷ past) ≡ history_at k past
    same-history = ap (λ h. λ (behind : List (List ℕ)). events_at k (behind ++ h)) same-head

    pub high-next : high_at k (p ∷ past) ≡ high (switched_at k past) (p ∷ behind_at k past)
    high-next = ap (λ s. high s (behind_head wanted (p ∷ past))) same-switched ∙ ap (high (switched_at k past)) more-behind

  joined-by : (p : List ℕ) (past : List (List ℕ)) (o : Option ProgramMap) → known_map wanted past ≡ o → behind_at k past ++ head_at k past ≡ past → behind_at k (p ∷ past) ++ head_at k (p ∷ past) ≡ p ∷ past
  joined-by p past None is before = ap (λ l. l ++ drop (length l) (p ∷ past)) (first-behind past is p)
  joined-by p past (Some m) is before = ap (λ l. l ++ drop (length l) (p ∷ past)) (more-behind p past m is) ∙ ap (λ l. p ∷ l) before

  -- a past is its head, and what stands behind it
  joined : (past : List (List ℕ)) → behind_at k past ++ head_at k past ≡ past
  joined [] = refl
  joined (p ∷ past) = joined-by p past (known_map wanted past) refl (joined past)

  pub history-now : (past : List (List ℕ)) → history_at k past (behind_at k past) ≡ events_at k past
  history-now past = ap (events_at k) (joined past)

  pub history-next : (p : List ℕ) (past : List (List ℕ)) → history_at k past (p ∷ behind_at k past) ≡ events_at k (p ∷ past)
  history-next p past = ap (λ (l : List (List ℕ)). events_at k (p ∷ l)) (joined past)
