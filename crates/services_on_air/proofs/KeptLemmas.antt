-- What a service keeps of the packets that have brought a section of its map: one packet more, and what goes out of it.
use Rattle.std.proofs.Common.{◌≡◌, ℕ, List, [], ◌∷◌, ◌++◌, Bool, true, false, ◌||◌, Option, None, Some, refl, sym, ap, subst, ◌∙◌}
use Rattle.std.specs.Prelude.{is_some, if◌then◌else◌, option_map, option_to_list, IfSome, Result, OnOk}
use Rattle.std.specs.Option.{option_or}
use Rattle.std.specs.List.{AllByRecursion}
use Rattle.ts_packet.specs.Fields.{marked, on, on_one, payload_on}
use Rattle.ts_packet.proofs.FieldLemmas.{off_payload, error-off}
use Rattle.psi_section.specs.Sections.{given}
use Rattle.program_follower.specs.declared.purpose.Listed.{Listed}
use Rattle.program_follower.specs.declared.purpose.Purpose.{Purpose}
use Rattle.program_follower.specs.Program.{listed, first_listed, pmt_pid_of, since_pat, known_pids, pids_of, program_of}
use Rattle.program_follower.specs.Following.{on_map}
use Rattle.on_air.specs.Tails.{brought, tail_of, tail_on, tail_behind, IsRead, TailIs, TailStands}
use Rattle.on_air.specs.declared.tail.MapTail.{MapTail}
use Rattle.on_air.proofs.TailLemmas.{read-past, known-of, listed-of, marked-error}
use Rattle.services_on_air.specs.Histories.{TailIsKept, TailKept}

-- none of these is a payload packet of the PID
abbrev pub IsWithout : ℕ → List (List ℕ) → Type 0
IsWithout pid since = AllByRecursion (λ q. payload_on pid q ≡ false) since

-- nothing is kept yet: its PID is not known
is-fresh : (t : MapTail) (o : Option ℕ) → TailIs o t None [] → o ≡ None
is-fresh t None h = refl
is-fresh t (Some pid) h = let no : None ≡ Some pid = h.0 in absurd (cc)

pub kept-new : (t : MapTail) (c : Purpose) → ((pid : Option ℕ) → TailStands t pid []) → TailKept t c []
kept-new t c fresh = subst (λ o. TailIsKept o t (pmt_pid_of c.program []) []) (sym (is-fresh t t.pid (fresh None))) (fresh, by (pmt_pid_of c.program [])) where
  by : (o : Option ℕ) → IfSome o (λ pid. IsWithout pid [])
  by None = tt
  by (Some pid) = tt

-- ---- the PAT

or-none : {A : Type 0} (a b : Option A) → option_or a b ≡ None → a ≡ None
or-none None b e = refl
or-none (Some x) b e = absurd (cc)

since-none : (wanted : Option ℕ) (past : List (List ℕ)) → listed wanted past ≡ None → since_pat wanted past ≡ []
since-none wanted [] e = refl
since-none wanted (p ∷ past) e = ap (λ o. if is_some o then p ∷ since_pat wanted past else []) (or-none (listed wanted past) _ e)

-- before it nothing is since, and behind a packet more neither
next-none : (wanted : Option ℕ) (p : List ℕ) (past : List (List ℕ)) → listed wanted past ≡ None → since_pat wanted (p ∷ past) ≡ []
next-none wanted p past e = ap (λ o. if is_some o then p ∷ since_pat wanted past else []) e

next-since : (wanted : Option ℕ) (p : List ℕ) (past : List (List ℕ)) (l : Listed) → listed wanted past ≡ Some l → since_pat wanted (p ∷ past) ≡ p ∷ since_pat wanted past
next-since wanted p past l e = ap (λ o. if is_some o then p ∷ since_pat wanted past else []) e

next-known : (wanted : Option ℕ) (p : List ℕ) (past : List (List ℕ)) (l : Listed) → listed wanted past ≡ Some l → pmt_pid_of wanted (p ∷ past) ≡ Some l.pid
next-known wanted p past l e = ap (λ o. option_map (λ (x : Listed). x.pid) (option_or o (first_listed wanted (given 0 p past)))) e

-- ---- a packet that is not kept: it has no payload on the PID of the map

module _ (t : MapTail) (c : Purpose) (p : List ℕ) (read : List (List ℕ)) where
  fresh-stays : (known : Option ℕ) → t.pid ≡ None → listed c.program read ≡ None → TailKept t c read → TailKept t c (p ∷ read)
  fresh-stays known none before h =
      let fresh = (subst (λ o. TailIsKept o t (pmt_pid_of c.program read) (since_pat c.program read)) none h).0 in
      subst (λ l. TailIsKept t.pid t (pmt_pid_of c.program (p ∷ read)) l) (sym (next-none c.program p read before))
      (subst (λ o. TailIsKept o t (pmt_pid_of c.program (p ∷ read)) []) (sym none) (fresh, by (pmt_pid_of c.program (p ∷ read)))) where
        by : (o : Option ℕ) → IfSome o (λ pid. IsWithout pid [])
        by None = tt
        by (Some pid) = tt

  -- before the PAT
  pub kept-before : listed c.program read ≡ None → TailKept t c read → TailKept t c (p ∷ read)
  kept-before before h = by t.pid refl where
    by : (o : Option ℕ) → t.pid ≡ o → TailKept t c (p ∷ read)
    by None none = fresh-stays None none before h
    by (Some pid) some =
        let stands = subst (λ o. TailIsKept o t (pmt_pid_of c.program read) (since_pat c.program read)) some h in
        let is = subst (λ o. TailIs o t (pmt_pid_of c.program read) (since_pat c.program read)) some stands in
        let no : None ≡ Some pid = ap (option_map (λ (x : Listed). x.pid)) (sym before) ∙ is.0 in absurd (cc)

  -- behind it
  kept-behind : (l : Listed) → listed c.program read ≡ Some l → payload_on l.pid p ≡ false → TailKept t c read → TailKept t c (p ∷ read)
  kept-behind l is out h =
      let known = known-of c read l is in
      let since = since_pat c.program read in
      let here = subst (λ k. TailIsKept t.pid t k since) known h in
      subst (λ k. TailIsKept t.pid t k (since_pat c.program (p ∷ read))) (sym (next-known c.program p read l is))
      (subst (TailIsKept t.pid t (Some l.pid)) (sym (next-since c.program p read l is)) (by t.pid refl here)) where
        by : (o : Option ℕ) → t.pid ≡ o → TailIsKept o t (Some l.pid) (since_pat c.program read) → TailIsKept o t (Some l.pid) (p ∷ since_pat c.program read)
        by None none k = (k.0, (out, k.1))
        by (Some pid) some k =
            let stands = subst (λ o. TailIs o t (Some l.pid) (since_pat c.program read)) some k in
            let same : l.pid ≡ pid = cc in
            subst (λ o. TailIs o t (Some l.pid) (p ∷ since_pat c.program read)) (sym some)
            (stands.0, read-past t pid p (since_pat c.program read) (subst (λ n. payload_on n p ≡ false) same out) stands.1)

  kept-out : ((l : Listed) → listed c.program read ≡ Some l → payload_on l.pid p ≡ false) → TailKept t c read → TailKept t c (p ∷ read)
  kept-out out h = by (listed c.program read) refl where
    by : (o : Option Listed) → listed c.program read ≡ o → TailKept t c (p ∷ read)
    by None is = kept-before is h
    by (Some l) is = kept-behind l is (out l is) h

-- one that is marked in error
pub kept-marked : (t : MapTail) (c : Purpose) (p : List ℕ) (read : List (List ℕ)) → TailKept t c read → TailKept t c (marked p ∷ read)
kept-marked t c p read h = kept-out t c (marked p) read (λ l is. off_payload l.pid (marked p) (error-off l.pid (marked p) (marked-error p))) h

-- one that is not on the PID of the map
pub kept-elsewhere : (t : MapTail) (c : Purpose) (p : List ℕ) (read : List (List ℕ)) → on_map (listed c.program read) p ≡ false → TailKept t c read → TailKept t c (p ∷ read)
kept-elsewhere t c p read off h = kept-out t c p read (λ l is. off_payload l.pid p (subst (λ o. on_map o p ≡ false) is off)) h

-- and one on none of the program's PIDs
off-first : (pid : ℕ) (pids : List ℕ) (p : List ℕ) → on_one (pid ∷ pids) p ≡ false → on pid p ≡ false
off-first pid pids p e = by (on pid p) e where
  by : (b : Bool) → (b || on_one pids p) ≡ false → b ≡ false
  by true e = absurd (cc)
  by false e = refl

pub kept-off : (t : MapTail) (c : Purpose) (p : List ℕ) (read : List (List ℕ)) → on_one (known_pids c.program read) p ≡ false → TailKept t c read → TailKept t c (p ∷ read)
kept-off t c p read off h = kept-out t c p read out h where
  out : (l : Listed) → listed c.program read ≡ Some l → payload_on l.pid p ≡ false
  out l is =
      let known : known_pids c.program read ≡ l.pid ∷ pids_of (program_of c.program read) =
      ap (λ o. option_to_list (option_map (λ (x : Listed). x.pid) o) ++ pids_of (program_of c.program read)) is in
      off_payload l.pid p (off-first l.pid (pids_of (program_of c.program read)) p (subst (λ w. on_one w p ≡ false) known off))

-- ---- a packet that is kept

-- the PAT has come: none of the PID's has
read-without : (t : MapTail) (pid : ℕ) (since : List (List ℕ)) → IsWithout pid since → IsRead t pid [] → IsRead t pid since
read-without t pid [] without h = h
read-without t pid (q ∷ since) without h = read-past t pid q since without.0 (read-without t pid since without.1 h)

pub kept-begins : (t begun new : MapTail) (c : Purpose) (p : List ℕ) (read : List (List ℕ)) (l : Listed) → listed c.program read ≡ Some l → t.pid ≡ None → begun.pid ≡ Some l.pid
    → new.pid ≡ Some l.pid
    → (TailStands t (Some l.pid) [] → TailStands begun (Some l.pid) [])
    → ((since : List (List ℕ)) → TailStands begun (Some l.pid) since → TailStands new (Some l.pid) (p ∷ since)) → TailKept t c read → TailKept new c (p ∷ read)
kept-begins t begun new c p read l is none some last begins takes h =
    let since = since_pat c.program read in
    let here = subst (λ k. TailIsKept t.pid t k since) (known-of c read l is) h in
    let fresh = subst (λ o. TailIsKept o t (Some l.pid) since) none here in
    let first = subst (λ o. TailIs o begun (Some l.pid) []) some (begins (fresh.0 (Some l.pid))) in
    let all : TailStands begun (Some l.pid) since = subst (λ o. TailIs o begun (Some l.pid) since) (sym some) (refl, read-without begun l.pid since fresh.1 first.1) in
    let next = takes since all in
    subst (λ k. TailIsKept new.pid new k (since_pat c.program (p ∷ read))) (sym (next-known c.program p read l is))
    (subst (TailIsKept new.pid new (Some l.pid)) (sym (next-since c.program p read l is)) (subst (λ o. TailIsKept o new (Some l.pid) (p ∷ since)) (sym last) next))

pub kept-takes : (t new : MapTail) (c : Purpose) (p : List ℕ) (read : List (List ℕ)) (pid : ℕ) → t.pid ≡ Some pid → new.pid ≡ Some pid
    → ((known : Option ℕ) (since : List (List ℕ)) → TailStands t known since → TailStands new known (p ∷ since)) → TailKept t c read → TailKept new c (p ∷ read)
kept-takes t new c p read pid some last takes h =
    let since = since_pat c.program read in
    let stands = subst (λ o. TailIsKept o t (pmt_pid_of c.program read) since) some h in
    let is = subst (λ o. TailIs o t (pmt_pid_of c.program read) since) some stands in
    let (l, listed, same) = listed-of c read pid is.0 in
    let next = takes (pmt_pid_of c.program read) since stands in
    subst (λ k. TailIsKept new.pid new k (since_pat c.program (p ∷ read))) (known-of c read l listed ∙ sym (next-known c.program p read l listed))
    (subst (TailIsKept new.pid new (pmt_pid_of c.program read)) (sym (next-since c.program p read l listed)) (subst (λ o. TailIsKept o new (pmt_pid_of c.program read) (p ∷ since)) (sym last) next))

-- ---- what goes out of it

brought-without : (pid : ℕ) (since : List (List ℕ)) → IsWithout pid since → brought pid since ≡ []
brought-without pid [] without = refl
brought-without pid (q ∷ since) without = one without.0 ∙ brought-without pid since without.1 where
  one : payload_on pid q ≡ false → brought pid (q ∷ since) ≡ brought pid since
  one out = simp out

none-on : (known : Option ℕ) (since : List (List ℕ)) → IfSome known (λ pid. IsWithout pid since) → tail_on known [] ≡ tail_on known since
none-on None since h = refl
none-on (Some pid) since h = ap tail_of (sym (brought-without pid since h))

pub kept-out-of : {T E : Type 0} (t : MapTail) (c : Purpose) (read : List (List ℕ)) (r : Result T E) (is_out : List (List ℕ) → Type 0)
    → ((known : Option ℕ) (since : List (List ℕ)) → TailStands t known since → OnOk r (is_out (tail_on known since))) → TailKept t c read → OnOk r (is_out (tail_behind c read))
kept-out-of t c read r is_out puts h = by t.pid refl h where
  by : (o : Option ℕ) → t.pid ≡ o → TailIsKept o t (pmt_pid_of c.program read) (since_pat c.program read) → OnOk r (is_out (tail_behind c read))
  by None none k = subst (λ l. OnOk r (is_out l)) (none-on (pmt_pid_of c.program read) (since_pat c.program read) k.1) (puts (pmt_pid_of c.program read) [] (k.0 (pmt_pid_of c.program read)))
  by (Some pid) some k = puts (pmt_pid_of c.program read) (since_pat c.program read) k
