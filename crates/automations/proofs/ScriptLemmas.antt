-- What a script gives before a packet, by what it gave.
use Rattle.std.proofs.Common.{◌≡◌, ◌≢◌, ℕ, suc, min, ◌+◌, ◌-◌, ◌<◌, ◌≤◌, List, [], ◌∷◌, ◌++◌, true, length, take, drop, get_or, refl, sym, ap, arith, ◌∙◌, append_assoc}
use Rattle.std.specs.Prelude.{nat_lt, nat_le, slice_range}
use Rattle.ts_packet.proofs.Cases.{by_test}
use Rattle.std.proofs.Math.Seq.{drop-cons}
use Rattle.std.proofs.lemmas.List.{take-append-le, take_all}
use Rattle.std.proofs.lemmas.Bool.{leb-true, le-leb, ltb-true, ltb-false, lt-ltb, and_from, and_parts}
use Rattle.std.proofs.lemmas.Bool.Decides.{nat_tests}
use Rattle.automations.specs.declared.script_text.Line.{Line}
use Rattle.automations.specs.ScriptLines.{ScriptLine, bytes_before, lines_from, are_sound, are_past, count_due, GivesFrom}

-- ---- the first of sound lines

pub record Sound (begin total least : ℕ) (l : Line) (ls : List Line) : Type 0 where
  pub some : begin < l.end
  pub inside : l.end ≤ total
  pub few : l.end - begin ≤ 4096
  pub rises : least ≤ l.packet
  pub rest : are_sound l.end total (l.packet + 1) ls ≡ true

pub first_sound : (begin total least : ℕ) (l : Line) (ls : List Line) → are_sound begin total least (l ∷ ls) ≡ true → Sound begin total least l ls
first_sound b t n l ls h =
    let h1 = and_parts (nat_lt b l.end) _ h in
    let h2 = and_parts (nat_le l.end t) _ h1.1 in
    let h3 = and_parts (nat_le (l.end - b) 4096) _ h2.1 in
    let h4 = and_parts (nat_le n l.packet) (are_sound l.end t (l.packet + 1) ls) h3.1 in
    record {
      some = ltb-true b l.end h1.0;
      inside = leb-true l.end t h2.0;
      few = leb-true (l.end - b) 4096 h3.0;
      rises = leb-true n l.packet h4.0;
      rest = h4.1;
    }

pub is_sound : (begin total least more : ℕ) (l : Line) (ls : List Line) → Sound begin total least l ls → more ≤ l.packet → are_sound begin total more (l ∷ ls) ≡ true
is_sound b t n m l ls s le =
    and_from (nat_lt b l.end) _ (lt-ltb b l.end s.some)
    (and_from (nat_le l.end t) _ (le-leb l.end t s.inside)
    (and_from (nat_le (l.end - b) 4096) _ (le-leb (l.end - b) 4096 s.few)
    (and_from (nat_le m l.packet) (are_sound l.end t (l.packet + 1) ls) (le-leb m l.packet le) s.rest)))

-- ---- the bytes before a packet

pub own : (n : ℕ) (l : ScriptLine) (ls : List ScriptLine) → l.packet ≡ n → bytes_before n (l ∷ ls) ≡ l.bytes
own n l ls e = grind (arith, nat_tests)

pub other : (n : ℕ) (l : ScriptLine) (ls : List ScriptLine) → l.packet ≢ n → bytes_before n (l ∷ ls) ≡ bytes_before n ls
other n l ls e = grind (arith, nat_tests)

pub none_later : (bs : List ℕ) (begin total least n : ℕ) (ls : List Line) → are_sound begin total least ls ≡ true → n < least → bytes_before n (lines_from bs begin ls) ≡ []
none_later bs b t least n [] h lt = refl
none_later bs b t least n (l ∷ ls) h lt =
    let s = first_sound b t least l ls h in
    let up = s.rises in
    let apart : l.packet ≢ n = λ e. absurd (omega (arith, e, up, lt)) in
    other n (record { packet = l.packet; bytes = slice_range bs b l.end }) (lines_from bs l.end ls) apart
    ∙ none_later bs l.end t (l.packet + 1) n ls s.rest (omega (arith, up, lt))

pub past_over : (n : ℕ) (past rest : List ScriptLine) → are_past n past ≡ true → bytes_before n (past ++ rest) ≡ bytes_before n rest
past_over n [] rest h = refl
past_over n (l ∷ past) rest h =
    let g = and_parts (nat_lt l.packet n) (are_past n past) h in
    let lt = ltb-true l.packet n g.0 in
    let apart : l.packet ≢ n = λ e. absurd (omega (arith, e, lt)) in
    other n l (past ++ rest) apart ∙ past_over n past rest g.1

-- ---- one packet more

pub past_on : (n : ℕ) (past : List ScriptLine) → are_past n past ≡ true → are_past (n + 1) past ≡ true
past_on n [] h = refl
past_on n (l ∷ past) h =
    let g = and_parts (nat_lt l.packet n) (are_past n past) h in
    let lt = ltb-true l.packet n g.0 in
    and_from (nat_lt l.packet (n + 1)) (are_past (n + 1) past) (lt-ltb l.packet (n + 1) (omega (arith, lt))) (past_on n past g.1)

pub past_more : (n : ℕ) (past : List ScriptLine) (l : ScriptLine) → are_past n past ≡ true → l.packet ≡ n → are_past (n + 1) (past ++ l ∷ []) ≡ true
past_more n [] l h e = and_from (nat_lt l.packet (n + 1)) true (lt-ltb l.packet (n + 1) (omega (arith, e))) refl
past_more n (k ∷ past) l h e =
    let g = and_parts (nat_lt k.packet n) (are_past n past) h in
    let lt = ltb-true k.packet n g.0 in
    and_from (nat_lt k.packet (n + 1)) (are_past (n + 1) (past ++ l ∷ [])) (lt-ltb k.packet (n + 1) (omega (arith, lt))) (past_more n past l g.1 e)

-- ---- the line that comes next

pub comes : (ls : List Line) (n : ℕ) (x : Line) → n < length ls → x ≡ get_or ls n x → drop n ls ≡ x ∷ drop (suc n) ls
comes ls n x lt e = drop-cons ls n x lt ∙ ap (λ y. y ∷ drop (suc n) ls) (sym e)

pub waits : (begin n : ℕ) (l : Line) (ls : List Line) → n < l.packet → count_due begin n (l ∷ ls) ≡ 0
waits b n l ls lt = grind (arith, nat_tests)

pub is_due : (begin n : ℕ) (l : Line) (ls : List Line) → l.packet ≤ n → count_due begin n (l ∷ ls) ≡ l.end - begin
is_due b n l ls le = grind (arith, nat_tests)

-- ---- nothing is due

pub record NothingDue (bs : List ℕ) (b t n : ℕ) (ls : List Line) : Type 0 where
  pub none : bytes_before n (lines_from bs b ls) ≡ []
  pub sound : are_sound b t (n + 1) ls ≡ true

nothing_due : (bs : List ℕ) (b t n : ℕ) (ls : List Line) → are_sound b t n ls ≡ true → count_due b n ls ≡ 0 → NothingDue bs b t n ls
nothing_due bs b t n [] h e = record { none = refl; sound = refl }
nothing_due bs b t n (l ∷ ls) h e =
    let s = first_sound b t n l ls h in
    by_test (nat_lt n l.packet)
    (λ yes.
    let lt = ltb-true n l.packet yes in
    let apart : l.packet ≢ n = λ q. absurd (omega (arith, q, lt)) in
    record {
      none = other n (record { packet = l.packet; bytes = slice_range bs b l.end }) (lines_from bs l.end ls) apart
          ∙ none_later bs l.end t (l.packet + 1) n ls s.rest (omega (arith, lt));
      sound = is_sound b t n (n + 1) l ls s (omega (arith, lt));
    })
    (λ no. let d = is_due b n l ls (ltb-false n l.packet no) in let some = s.some in absurd (omega (arith, d, e, some)))

-- ---- a line is due

pub record Due (bs : List ℕ) (b t n : ℕ) (ls : List Line) : Type 0 where
  pub line : Line
  pub rest : List Line
  pub is : ls ≡ line ∷ rest
  pub number : line.packet ≡ n
  pub count : count_due b n ls ≡ line.end - b
  pub some : b < line.end
  pub inside : line.end ≤ t
  pub few : line.end - b ≤ 4096
  pub sound : are_sound line.end t (n + 1) rest ≡ true

pub line_due : (bs : List ℕ) (b t n : ℕ) (ls : List Line) → are_sound b t n ls ≡ true → count_due b n ls ≢ 0 → Due bs b t n ls
line_due bs b t n [] h ne = absurd (ne refl)
line_due bs b t n (l ∷ ls) h ne =
    let s = first_sound b t n l ls h in
    by_test (nat_lt n l.packet)
    (λ yes. absurd (ne (waits b n l ls (ltb-true n l.packet yes))))
    (λ no.
    let le = ltb-false n l.packet no in
    let up = s.rises in
    let own : l.packet ≡ n = omega (arith, le, up) in
    record {
      line = l;
      rest = ls;
      is = refl;
      number = own;
      count = is_due b n l ls le;
      some = s.some;
      inside = s.inside;
      few = s.few;
      sound = ap (λ k. are_sound l.end t (k + 1) ls) (sym own) ∙ s.rest;
    })

-- ---- a take

taken : (xs ys : List ℕ) (n : ℕ) → n ≡ length xs → take n (xs ++ ys) ≡ xs
taken xs ys n e = take-append-le n xs ys (omega (arith, e)) ∙ take_all n xs (omega (arith, e))

module _ (bs : List ℕ) (b n : ℕ) (ls : List Line) (script : List ScriptLine) (g : GivesFrom bs b n ls script) where
  pub gives_nothing : count_due b n ls ≡ 0 → bytes_before n script ≡ []
  gives_nothing e =
      ap (bytes_before n) g.whole ∙ past_over n g.past (lines_from bs b ls) g.given ∙ (nothing_due bs b (length bs) n ls g.sound e).none

  pub goes_on_waiting : (m : ℕ) → m ≡ n + 1 → count_due b n ls ≡ 0 → GivesFrom bs b m ls script
  goes_on_waiting m is e = record {
    past = g.past;
    whole = g.whole;
    given = ap (λ k. are_past k g.past) is ∙ past_on n g.past g.given;
    sound = ap (λ k. are_sound b (length bs) k ls) is ∙ (nothing_due bs b (length bs) n ls g.sound e).sound;
  }

  module _ (ne : count_due b n ls ≢ 0) where
    pub due : Due bs b (length bs) n ls
    due = line_due bs b (length bs) n ls g.sound ne

    pub ends : b + count_due b n ls ≡ due.line.end
    ends = let c = due.count in let s = due.some in omega (arith, c, s)

    pub lies_inside : b + count_due b n ls ≤ length bs
    lies_inside = let e = ends in let i = due.inside in omega (arith, e, i)

    pub fits : count_due b n ls ≤ 4096
    fits = let c = due.count in let f = due.few in omega (arith, c, f)

    pub gives_line : bytes_before n script ≡ slice_range bs b (b + count_due b n ls)
    gives_line =
        ap (bytes_before n) g.whole ∙ past_over n g.past (lines_from bs b ls) g.given
        ∙ ap (λ l. bytes_before n (lines_from bs b l)) due.is
        ∙ own n (record { packet = due.line.packet; bytes = slice_range bs b due.line.end }) (lines_from bs due.line.end due.rest) due.number
        ∙ ap (slice_range bs b) (sym ends)

    pub goes_on_behind : (m : ℕ) → m ≡ n + 1 → GivesFrom bs (b + count_due b n ls) m (drop 1 ls) script
    goes_on_behind m is =
        let line : ScriptLine = record { packet = due.line.packet; bytes = slice_range bs b due.line.end } in
        record {
          past = g.past ++ line ∷ [];
          whole = g.whole ∙ ap (λ l. g.past ++ lines_from bs b l) due.is
              ∙ sym (append_assoc g.past (line ∷ []) (lines_from bs due.line.end due.rest))
              ∙ ap (λ l. (g.past ++ line ∷ []) ++ l) (ap (λ e. lines_from bs e due.rest) (sym ends) ∙ ap (λ l. lines_from bs (b + count_due b n ls) (drop 1 l)) (sym due.is));
          given = ap (λ k. are_past k (g.past ++ line ∷ [])) is ∙ past_more n g.past line g.given due.number;
          sound = ap (λ k. are_sound (b + count_due b n ls) (length bs) k (drop 1 ls)) is
              ∙ ap (λ e. are_sound e (length bs) (n + 1) (drop 1 ls)) ends
              ∙ ap (λ l. are_sound due.line.end (length bs) (n + 1) (drop 1 l)) due.is ∙ due.sound;
        }

    -- what lies in the room: the bytes from here to an end that saturates
    module _ (count end : ℕ) (xs got room : List ℕ) (c : count ≡ count_due b n ls) (e : end ≡ min (b + count) 18446744073709551615)
        (is : xs ≡ bs) (below : length xs < 18446744073709551616) where
      pub end_is : end ≡ b + count_due b n ls
      end_is = let size = ap length is in let inside = lies_inside in omega (arith, c, e, size, below, inside)

      pub lies_in : (b ≤ end) × (end ≤ length xs)
      lies_in = let at = end_is in let size = ap length is in let inside = lies_inside in (omega (arith, at), omega (arith, at, size, inside))

      pub piece_is : got ≡ slice_range xs b end → length got + b ≡ end → take count (got ++ room) ≡ bytes_before n script
      piece_is g size =
          let at = end_is in
          taken got room count (omega (arith, size, c, at)) ∙ g ∙ ap (λ l. slice_range l b end) is ∙ ap (slice_range bs b) end_is ∙ sym gives_line
