-- The output for a whole network, packet by packet.
use Rattle.std.proofs.Common.{◌≡◌, ℕ, List, [], ◌∷◌, ◌++◌, true, false, refl, sym, ap, ◌∙◌, Option, None, Some, append_assoc, if◌then◌else◌, length, reverse, drop}
use Rattle.std.specs.Prelude.{All, flat_map, is_some, option_map}
use Rattle.std.proofs.lemmas.List.{append-nil}
use Rattle.std.proofs.lemmas.List.Elements.{All-tail}
use Rattle.ts_packet.specs.Runs.{Seen, seen_after, onto}
use Rattle.ts_packet.proofs.RunLemmas.{reverse-onto}
use Rattle.psi_tables.specs.ProgramMap.{ProgramMap}
use Rattle.program_follower.specs.declared.purpose.Listed.{Listed}
use Rattle.program_follower.specs.Following.{streams_of_program}
use Rattle.program_follower.specs.Program.{listed, known_map, behind_head, program_in, pids_of}
use Rattle.program_follower.proofs.StepLemmas.{listed_stays}
use Rattle.program_laws.specs.Writing.{Along, block}
use Rattle.program_laws.proofs.HeadLemmas.{known_stays}
use Rattle.splice_plans.specs.Playing.{Adverts}
use Rattle.splice_plans.specs.Switching.{Setting, switched_at, head_at, is_behind_head, front_at, rest_at, switching, switched_past}
use Rattle.splice_plans.specs.Known.{adverts_at}
use Rattle.switch_laws.specs.Whole.{stands_for, OutputIsInOrder}

-- ---- in order

module _ (k : Setting) where
  abbrev wanted : Option ℕ
  wanted = Some k.program

  abbrev at : Seen → List (List ℕ)
  at s = front_at k s.packet s.past ++ stands_for k s.packet s.past

  in-order : (past ps : List (List ℕ)) → reverse (switched_past k (onto past ps)) ≡ reverse (switched_past k past) ++ flat_map at (seen_after past ps)
  in-order past [] = sym (append-nil (reverse (switched_past k past)))
  in-order past (p ∷ ps) =
      in-order (p ∷ past) ps
      ∙ ap (λ l. l ++ flat_map at (seen_after (p ∷ past) ps)) (reverse-onto (switched_past k past) (block (switching k) wanted p past (switched_past k past)))
      ∙ append_assoc (reverse (switched_past k past)) (at (record { packet = p; past = past })) (flat_map at (seen_after (p ∷ past) ps))

pub output_is_in_order : OutputIsInOrder
output_is_in_order k network = ap (λ l. l ++ rest_at k (reverse network)) (in-order k [] network)

-- ---- the head

-- what holds at each packet of a network, holds along it
pub along-each : (P : List ℕ → List (List ℕ) → Type 0) (network past more : List (List ℕ)) → network ≡ more ++ past → ((p : List ℕ) (past more : List (List ℕ)) → network ≡ more ++ (p ∷ past) → P p past) → Along P past
along-each P network [] more is h = tt
along-each P network (p ∷ past) more is h = (h p past more is, along-each P network past (more ++ p ∷ []) (is ∙ sym (append_assoc more (p ∷ []) past)) h)

pub packets-each : (P : List ℕ → Type 0) (more past : List (List ℕ)) → All P (more ++ past) → All P past
packets-each P [] past a = a
packets-each P (p ∷ more) past a = packets-each P more past (All-tail P p (more ++ past) a)

module _ (wanted : Option ℕ) where
  pub listed-later : (l : Listed) (more past : List (List ℕ)) → listed wanted past ≡ Some l → listed wanted (more ++ past) ≡ Some l
  listed-later l [] past h = h
  listed-later l (p ∷ more) past h = listed_stays wanted p (more ++ past) l (listed-later l more past h)

  pub known-later : (m : ProgramMap) (more past : List (List ℕ)) → known_map wanted past ≡ Some m → known_map wanted (more ++ past) ≡ Some m
  known-later m [] past h = h
  known-later m (p ∷ more) past h = known_stays wanted p (more ++ past) m (known-later m more past h)

  pub behind-one : (m : ProgramMap) (p : List ℕ) (past : List (List ℕ)) → known_map wanted past ≡ Some m → behind_head wanted (p ∷ past) ≡ p ∷ behind_head wanted past
  behind-one m p past h = ap (λ o. if is_some o then p ∷ behind_head wanted past else []) h

  pub behind-later : (m : ProgramMap) (more past : List (List ℕ)) → known_map wanted past ≡ Some m → behind_head wanted (more ++ past) ≡ more ++ behind_head wanted past
  behind-later m [] past h = refl
  behind-later m (p ∷ more) past h = behind-one m p (more ++ past) (known-later m more past h) ∙ ap (λ l. p ∷ l) (behind-later m more past h)

module _ (k : Setting) where
  head-one : (m : ProgramMap) (p : List ℕ) (past : List (List ℕ)) → known_map (Some k.program) past ≡ Some m → head_at k (p ∷ past) ≡ head_at k past
  head-one m p past h = ap (λ l. drop (length l) (p ∷ past)) (behind-one (Some k.program) m p past h)

  pub head-later : (m : ProgramMap) (more past : List (List ℕ)) → known_map (Some k.program) past ≡ Some m → head_at k (more ++ past) ≡ head_at k past
  head-later m [] past h = refl
  head-later m (p ∷ more) past h = head-one m p (more ++ past) (known-later (Some k.program) m more past h) ∙ head-later m more past h

  joined-by : (p : List ℕ) (past : List (List ℕ)) (o : Option ProgramMap) → known_map (Some k.program) past ≡ o → behind_head (Some k.program) past ++ head_at k past ≡ past →
      behind_head (Some k.program) (p ∷ past) ++ head_at k (p ∷ past) ≡ p ∷ past
  joined-by p past None is before =
      ap (λ l. l ++ drop (length l) (p ∷ past)) (ap (λ o. if is_some o then p ∷ behind_head (Some k.program) past else []) is)
  joined-by p past (Some m) is before =
      ap (λ l. l ++ drop (length l) (p ∷ past)) (behind-one (Some k.program) m p past is) ∙ ap (λ l. p ∷ l) before

  -- a past is its head, and what stands behind it
  pub head-joined : (past : List (List ℕ)) → behind_head (Some k.program) past ++ head_at k past ≡ past
  head-joined [] = refl
  head-joined (p ∷ past) = joined-by p past (known_map (Some k.program) past) refl (head-joined past)

  pub adverts-same : (past later : List (List ℕ)) → known_map (Some k.program) past ≡ known_map (Some k.program) later → adverts_at k past ≡ adverts_at k later
  adverts-same past later h = ap (λ o. adverts_of o) h
    where
      adverts_of : Option ProgramMap → Adverts
      adverts_of o = k.adverts (streams_of_program (option_map program_in o))

  pub switched-same : (past later : List (List ℕ)) → known_map (Some k.program) past ≡ known_map (Some k.program) later → switched_at k past ≡ switched_at k later
  switched-same past later h = ap (λ o. pids_of (option_map program_in o)) h

  -- before its end nothing is switched
  pub none-switched : (past : List (List ℕ)) → known_map (Some k.program) past ≡ None → switched_at k past ≡ []
  none-switched past h = ap (λ o. pids_of (option_map program_in o)) h

  pub not-behind : (past : List (List ℕ)) → known_map (Some k.program) past ≡ None → is_behind_head k past ≡ false
  not-behind past h = ap (λ o. is_some (option_map program_in o)) h

  pub is-behind : (m : ProgramMap) (past : List (List ℕ)) → known_map (Some k.program) past ≡ Some m → is_behind_head k past ≡ true
  is-behind m past h = ap (λ o. is_some (option_map program_in o)) h
