-- The packets that have brought a part of a section: one packet more.
use Rattle.std.proofs.Common.{◌≡◌, ℕ, ◌+◌, ◌/◌, ◌%◌, List, [], ◌∷◌, ◌++◌, Bool, true, false, not, Option, None, Some, refl, sym, ap, subst, ◌∙◌, arith, length, take}
use Rattle.std.specs.Prelude.{if◌then◌else◌, is_some, option_map, option_to_list, slice_index, slice_get}
use Rattle.ts_packet.specs.Fields.{in_error, marked, on, payload, payload_on, unit_start}
use Rattle.ts_packet.specs.Duplicates.{original, last_of}
use Rattle.ts_packet.specs.Following.{Follows, Marks}
use Rattle.ts_packet.specs.declared.follower.Follower.{Follower}
use Rattle.ts_packet.proofs.FieldLemmas.{off_payload, error-off}
use Rattle.psi_section.specs.Assembling.{Waits, capped}
use Rattle.psi_section.specs.declared.assembler.Assembler.{Assembler}
use Rattle.std.specs.Option.{option_or}
use Rattle.psi_section.specs.Sections.{given}
use Rattle.program_follower.specs.declared.purpose.Listed.{Listed}
use Rattle.program_follower.specs.declared.purpose.Purpose.{Purpose}
use Rattle.program_follower.specs.Program.{listed, first_listed, pmt_pid_of, since_pat, tables, tables_on, all_tables, first_map, program_in, program_of, pids_of, known_pids}
use Rattle.on_air.specs.Tails.{TailOf, has_part, brought_on, brought, KeepsPackets, IsUnread, IsRead, TailIs, TailStands}
use Rattle.on_air.specs.declared.tail.MapTail.{MapTail}

-- ---- a packet of another PID, or one without payload, is left out

pub waits-past : (a : Assembler) (pid : ℕ) (q : List ℕ) (past : List (List ℕ)) → payload_on pid q ≡ false → Waits a pid past → Waits a pid (q ∷ past)
waits-past a pid q past out h = record { last = simp out h.last; part = simp out h.part; ready = h.ready; bad = h.bad ∙ ap capped (simp out (omega arith)) }

follows-past : (f : Follower) (kept : List ℕ) (pid : ℕ) (q : List ℕ) (past : List (List ℕ)) → payload_on pid q ≡ false → Follows f kept pid past → Follows f kept pid (q ∷ past)
follows-past f kept pid q past out h = record { same = h.same; last = simp out h.last }

brought-past : (pid : ℕ) (q : List ℕ) (past : List (List ℕ)) → payload_on pid q ≡ false → brought pid (q ∷ past) ≡ brought pid past
brought-past pid q past out = simp out

last-past : (pid : ℕ) (q : List ℕ) (past : List (List ℕ)) → payload_on pid q ≡ false → last_of pid (q ∷ past) ≡ last_of pid past
last-past pid q past out = simp out

pub read-past : (t : MapTail) (pid : ℕ) (q : List ℕ) (past : List (List ℕ)) → payload_on pid q ≡ false → IsRead t pid past → IsRead t pid (q ∷ past)
read-past t pid q past out h = record {
  waits = waits-past t.assembler pid q past out h.waits;
  follows = follows-past t.follower t.last pid q past out h.follows;
  keeps = subst (KeepsPackets t) (sym (brought-past pid q past out)) h.keeps;
}

unread-past : (t : MapTail) (pid : ℕ) (q : List ℕ) (past : List (List ℕ)) → payload_on pid q ≡ false → IsUnread t pid past → IsUnread t pid (q ∷ past)
unread-past t pid q past out h = record {
  waits = waits-past t.assembler pid q past out h.waits;
  none = last-past pid q past out ∙ h.none;
  brought = brought-past pid q past out ∙ h.brought;
}

-- so is one marked in error
error-past : (pid : ℕ) (q : List ℕ) → in_error q ≡ true → payload_on pid q ≡ false
error-past pid q e = off_payload pid q (error-off pid q e)

pub tail-past : (t : MapTail) (known : Option ℕ) (q : List ℕ) (past : List (List ℕ)) → in_error q ≡ true → TailStands t known past → TailStands t known (q ∷ past)
tail-past t known q past e h = by t.pid h where
  by : (o : Option ℕ) → TailIs o t known past → TailIs o t known (q ∷ past)
  by None h = (h.0, λ pid. unread-past t pid q past (error-past pid q e) (h.1 pid))
  by (Some pid) h = (h.0, read-past t pid q past (error-past pid q e) h.1)

-- ---- a packet that was read

read-other : (pid : ℕ) (q : List ℕ) (past : List (List ℕ)) → original pid q past ≡ false → brought pid (q ∷ past) ≡ brought pid past
read-other pid q past out = simp out

read-one : (pid : ℕ) (q : List ℕ) (past : List (List ℕ)) → original pid q past ≡ true → brought pid (q ∷ past) ≡ brought_on (has_part pid (q ∷ past)) (unit_start q) q (brought pid past)
read-one pid q past is = ap (λ b. if b then brought_on (has_part pid (q ∷ past)) (unit_start q) q (brought pid past) else brought pid past) is

-- a duplicate brings nothing
pub read-repeat : (old new : MapTail) (pid : ℕ) (q : List ℕ) (past : List (List ℕ)) → original pid q past ≡ false → new.packets ≡ old.packets → new.count ≡ old.count
    → Waits new.assembler pid (q ∷ past) → Follows new.follower new.last pid (q ∷ past) → KeepsPackets old (brought pid past) → IsRead new pid (q ∷ past)
read-repeat old new pid q past out packets count waits follows keeps = record {
  waits = waits;
  follows = follows;
  keeps = subst (KeepsPackets new) (sym (read-other pid q past out)) (record {
    count = count ∙ keeps.count;
    packets = λ few. ap (take (length (brought pid past))) packets ∙ keeps.packets few;
  });
}

pub same-kept : (old new : MapTail) (ps : List (List ℕ)) → new.packets ≡ old.packets → new.count ≡ old.count → KeepsPackets old ps → KeepsPackets new ps
same-kept old new ps packets count keeps = record { count = count ∙ keeps.count; packets = λ few. ap (take (length ps)) packets ∙ keeps.packets few }

-- an original does
pub read-original : (old new : MapTail) (pid : ℕ) (q : List ℕ) (past : List (List ℕ)) → original pid q past ≡ true
    → Waits new.assembler pid (q ∷ past) → Follows new.follower new.last pid (q ∷ past)
    → KeepsPackets new (brought_on (has_part pid (q ∷ past)) (unit_start q) q (brought pid past)) → IsRead new pid (q ∷ past)
read-original old new pid q past is waits follows keeps = record {
  waits = waits;
  follows = follows;
  keeps = subst (KeepsPackets new) (sym (read-one pid q past is)) keeps;
}

-- ---- what is kept

-- nothing
pub keeps-none : (t : MapTail) → t.count ≡ 0 → KeepsPackets t []
keeps-none t none = record { count = none; packets = λ few. refl }

-- the PAT has come: no packet of the PID was read
pub begins-read : (t new : MapTail) (pid : ℕ) (since : List (List ℕ)) → t.pid ≡ None → new.assembler ≡ t.assembler → new.count ≡ t.count → ((kept : List ℕ) → Follows new.follower kept pid [])
    → TailStands t (Some pid) since → IsRead new pid since
begins-read t new pid since none assembler count follows h = by (subst (λ o. TailIs o t (Some pid) since) none h) where
  by : TailIs None t (Some pid) since → IsRead new pid since
  by h = let unread = h.1 pid in record {
    waits = subst (λ a. Waits a pid since) (sym assembler) unread.waits;
    follows = record { same = (follows new.last).same; last = subst (Marks new.follower.last new.last) (sym unread.none) (follows new.last).last };
    keeps = subst (KeepsPackets new) (sym unread.brought) (keeps-none new (count ∙ h.0));
  }

-- an original, by whether a part is held behind it and begins in it
pub brought-none : (is_part begins : Bool) (p : List ℕ) (ps : List (List ℕ)) → is_part ≡ false → brought_on is_part begins p ps ≡ []
brought-none is_part begins p ps e = ap (λ b. brought_on b begins p ps) e

pub brought-first : (is_part begins : Bool) (p : List ℕ) (ps : List (List ℕ)) → is_part ≡ true → begins ≡ true → brought_on is_part begins p ps ≡ p ∷ []
brought-first is_part begins p ps e f = ap (λ b. brought_on b begins p ps) e ∙ ap (λ b. brought_on true b p ps) f

pub brought-more : (is_part begins : Bool) (p : List ℕ) (ps : List (List ℕ)) → is_part ≡ true → begins ≡ false → brought_on is_part begins p ps ≡ p ∷ ps
brought-more is_part begins p ps e f = ap (λ b. brought_on b begins p ps) e ∙ ap (λ b. brought_on true b p ps) f

pub is-payload : (pid : ℕ) (q : List ℕ) → on pid q ≡ true → is_some (payload q) ≡ true → payload_on pid q ≡ true
unfolding payload_on
is-payload pid q a b = simp (a, b)

-- ---- the PAT

or-none : {A : Type 0} (a b : Option A) → option_or a b ≡ None → a ≡ None
or-none None b e = refl
or-none (Some x) b e = absurd (cc)

-- before it there are no sections of a map, and no packet since
no-tables : (wanted : Option ℕ) (past : List (List ℕ)) → listed wanted past ≡ None → all_tables wanted past ≡ []
no-tables wanted [] e = refl
no-tables wanted (p ∷ past) e =
    let before = or-none (listed wanted past) _ e in
    ap (λ l. l ++ tables wanted p past) (no-tables wanted past before) ∙ ap (λ o. tables_on o p (since_pat wanted past)) before

since-none : (wanted : Option ℕ) (past : List (List ℕ)) → listed wanted past ≡ None → since_pat wanted past ≡ []
since-none wanted [] e = refl
since-none wanted (p ∷ past) e = ap (λ o. if is_some o then p ∷ since_pat wanted past else []) (or-none (listed wanted past) _ e)

-- so no PID of a program is known before it
nothing-known : (wanted : Option ℕ) (past : List (List ℕ)) → listed wanted past ≡ None → known_pids wanted past ≡ []
nothing-known wanted past is =
    ap (λ o. option_to_list (option_map (λ (l : Listed). l.pid) o) ++ pids_of (program_of wanted past)) is ∙ ap (λ l. pids_of (option_map program_in (first_map l))) (no-tables wanted past is)

map-known : (wanted : Option ℕ) (past : List (List ℕ)) (l : Listed) → listed wanted past ≡ Some l → known_pids wanted past ≡ l.pid ∷ pids_of (program_of wanted past)
map-known wanted past l is = ap (λ o. option_to_list (option_map (λ (x : Listed). x.pid) o) ++ pids_of (program_of wanted past)) is

pub first-known : (wanted : Option ℕ) (past : List (List ℕ)) (pid : ℕ) → slice_get (known_pids wanted past) 0 ≡ Some pid → (l : Listed) × (listed wanted past ≡ Some l) × (l.pid ≡ pid)
first-known wanted past pid e = by (listed wanted past) refl where
  by : (o : Option Listed) → listed wanted past ≡ o → (l : Listed) × (listed wanted past ≡ Some l) × (l.pid ≡ pid)
  by None is = let no : None ≡ Some pid = ap (λ l. slice_get l 0) (sym (nothing-known wanted past is)) ∙ e in absurd (cc)
  by (Some l) is = let same : Some l.pid ≡ Some pid = ap (λ w. slice_get w 0) (sym (map-known wanted past l is)) ∙ e in (l, is, cc)

pub none-known : (wanted : Option ℕ) (past : List (List ℕ)) → slice_get (known_pids wanted past) 0 ≡ None → listed wanted past ≡ None
none-known wanted past e = by (listed wanted past) refl where
  by : (o : Option Listed) → listed wanted past ≡ o → listed wanted past ≡ None
  by None is = is
  by (Some l) is = let no : Some l.pid ≡ None = ap (λ w. slice_get w 0) (sym (map-known wanted past l is)) ∙ e in absurd (cc)

-- ---- a packet of a program

-- behind the PAT
pub tail-behind : (new : MapTail) (c : Purpose) (p : List ℕ) (read : List (List ℕ)) (l : Listed) → listed c.program read ≡ Some l
    → TailStands new (Some l.pid) (p ∷ since_pat c.program read) → TailOf new c (p ∷ read)
tail-behind new c p read l is h =
    let known : pmt_pid_of c.program (p ∷ read) ≡ Some l.pid = ap (λ o. option_map (λ (x : Listed). x.pid) (option_or o (first_listed c.program (given 0 p read)))) is in
    let since : since_pat c.program (p ∷ read) ≡ p ∷ since_pat c.program read = ap (λ o. if is_some o then p ∷ since_pat c.program read else []) is in
    subst (λ k. TailStands new k (since_pat c.program (p ∷ read))) (sym known) (subst (TailStands new (Some l.pid)) (sym since) h)

-- what was known of the PID
pub known-of : (c : Purpose) (read : List (List ℕ)) (l : Listed) → listed c.program read ≡ Some l → pmt_pid_of c.program read ≡ Some l.pid
known-of c read l is = ap (option_map (λ (x : Listed). x.pid)) is

pub listed-of : (c : Purpose) (read : List (List ℕ)) (pid : ℕ) → pmt_pid_of c.program read ≡ Some pid → (l : Listed) × (listed c.program read ≡ Some l) × (l.pid ≡ pid)
listed-of c read pid e = by (listed c.program read) refl where
  by : (o : Option Listed) → listed c.program read ≡ o → (l : Listed) × (listed c.program read ≡ Some l) × (l.pid ≡ pid)
  by None is = let no : None ≡ Some pid = ap (option_map (λ (x : Listed). x.pid)) (sym is) ∙ e in absurd (cc)
  by (Some l) is = let same : Some l.pid ≡ Some pid = ap (option_map (λ (x : Listed). x.pid)) (sym is) ∙ e in (l, is, cc)

-- before the PAT
pub tail-before : (t : MapTail) (c : Purpose) (p : List ℕ) (read : List (List ℕ)) → t.pid ≡ None → listed c.program read ≡ None → TailOf t c read → TailOf t c (p ∷ read)
tail-before t c p read none is h =
    let known = pmt_pid_of c.program (p ∷ read) in
    let fresh = subst (λ l. TailIs None t (pmt_pid_of c.program read) l) (since-none c.program read is) (subst (λ o. TailIs o t (pmt_pid_of c.program read) (since_pat c.program read)) none h) in
    let since : since_pat c.program (p ∷ read) ≡ [] = ap (λ o. if is_some o then p ∷ since_pat c.program read else []) is in
    subst (TailStands t known) (sym since) (subst (λ o. TailIs o t known []) (sym none) fresh)

-- one that is marked in error changes nothing
pub tail-marked : (t : MapTail) (c : Purpose) (q : List ℕ) (read : List (List ℕ)) → in_error q ≡ true → TailOf t c read → TailOf t c (q ∷ read)
tail-marked t c q read e h = by (listed c.program read) refl where
  by : (o : Option Listed) → listed c.program read ≡ o → TailOf t c (q ∷ read)
  by (Some l) is =
      tail-behind t c q read l is (tail-past t (Some l.pid) q (since_pat c.program read) e (subst (λ k. TailStands t k (since_pat c.program read)) (known-of c read l is) h))
  by None is = none_yet t.pid refl where
    none_yet : (o : Option ℕ) → t.pid ≡ o → TailOf t c (q ∷ read)
    none_yet None none = tail-before t c q read none is h
    none_yet (Some pid) some =
        let stands = subst (λ o. TailIs o t (pmt_pid_of c.program read) (since_pat c.program read)) some h in
        let no : None ≡ Some pid = ap (option_map (λ (x : Listed). x.pid)) (sym is) ∙ stands.0 in absurd (cc)

pub marked-error : (p : List ℕ) → in_error (marked p) ≡ true
unfolding marked in_error
marked-error p = let one : (slice_index p 1 % 128 + 128) / 128 % 2 ≡ 1 = omega arith in rw one refl

-- it is known, or not
pub pid-none : (o : Option ℕ) → not (is_some o) ≡ true → o ≡ None
pid-none None e = refl
pid-none (Some pid) e = absurd (cc)

pub pid-some : (o : Option ℕ) → not (is_some o) ≡ false → (pid : ℕ) × (o ≡ Some pid)
pid-some None e = absurd (cc)
pid-some (Some pid) e = (pid, refl)
