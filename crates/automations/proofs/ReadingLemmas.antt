-- Lines that are read one after another.
use Rattle.std.proofs.Common.{◌≡◌, ℕ, suc, ◌+◌, ◌-◌, ◌<◌, ◌≤◌, List, [], ◌∷◌, ◌++◌, true, length, refl, sym, ap, arith, ◌∙◌}
use Rattle.std.specs.Prelude.{nat_lt, nat_le, slice_get, Some}
use Rattle.std.proofs.lemmas.Bool.{lt-ltb, le-leb, and_from}
use Rattle.automations.specs.declared.script_text.Line.{Line}
use Rattle.automations.specs.ScriptLines.{are_sound}
use Rattle.automations.specs.ScriptReading.{last_end, next_line_number, IsBehind, IsInLine}
use Rattle.automations.proofs.ScriptLemmas.{first_sound}

pub behind_last_line : (ls : List Line) (least : ℕ) (l : Line) → slice_get ls (length ls - 1) ≡ Some l → next_line_number least ls ≡ l.packet + 1
behind_last_line [] least l h = absurd (cc)
behind_last_line (k ∷ []) least l h = let e : k ≡ l = cc in ap (λ (x : Line). x.packet + 1) e
behind_last_line (k ∷ m ∷ ls) least l h =
    let i : length (k ∷ m ∷ ls) - 1 ≡ suc (length (m ∷ ls) - 1) = omega arith in
    behind_last_line (m ∷ ls) (k.packet + 1) l (ap (slice_get (k ∷ m ∷ ls)) (sym i) ∙ h)

last_behind : (ls : List Line) (begin : ℕ) (l : Line) → last_end begin (ls ++ l ∷ []) ≡ l.end
last_behind [] begin l = refl
last_behind (k ∷ ls) begin l = last_behind ls k.end l

pub wider : (begin total more least : ℕ) (ls : List Line) → total ≤ more → are_sound begin total least ls ≡ true → are_sound begin more least ls ≡ true
wider b t m n [] le h = refl
wider b t m n (l ∷ ls) le h =
    let s = first_sound b t n l ls h in
    let i = s.inside in
    and_from (nat_lt b l.end) _ (lt-ltb b l.end s.some)
    (and_from (nat_le l.end m) _ (le-leb l.end m (omega (arith, le, i)))
    (and_from (nat_le (l.end - b) 4096) _ (le-leb (l.end - b) 4096 s.few)
    (and_from (nat_le n l.packet) (are_sound l.end m (l.packet + 1) ls) (le-leb n l.packet s.rises) (wider l.end t m (l.packet + 1) ls le s.rest))))

one_more : (begin total least : ℕ) (ls : List Line) (l : Line) → are_sound begin total least ls ≡ true → last_end begin ls < l.end → l.end ≤ total
    → l.end - last_end begin ls ≤ 4096 → next_line_number least ls ≤ l.packet → are_sound begin total least (ls ++ l ∷ []) ≡ true
one_more b t n [] l h some inside few rises =
    and_from (nat_lt b l.end) _ (lt-ltb b l.end some)
    (and_from (nat_le l.end t) _ (le-leb l.end t inside)
    (and_from (nat_le (l.end - b) 4096) _ (le-leb (l.end - b) 4096 few)
    (and_from (nat_le n l.packet) true (le-leb n l.packet rises) refl)))
one_more b t n (k ∷ ls) l h some inside few rises =
    let s = first_sound b t n k ls h in
    and_from (nat_lt b k.end) _ (lt-ltb b k.end s.some)
    (and_from (nat_le k.end t) _ (le-leb k.end t s.inside)
    (and_from (nat_le (k.end - b) 4096) _ (le-leb (k.end - b) 4096 s.few)
    (and_from (nat_le n k.packet) (are_sound k.end t (k.packet + 1) (ls ++ l ∷ [])) (le-leb n k.packet s.rises)
    (one_more k.end t (k.packet + 1) ls l s.rest some inside few rises))))

-- a line ends
pub line_ends : (bytes : List ℕ) (lines : List Line) (l : Line) (count : ℕ) → IsInLine bytes lines l.packet count → 0 < count → l.end ≡ length bytes
    → IsBehind bytes (lines ++ l ∷ []) 0
line_ends bytes lines l count h some e =
    let size = h.behind.size in
    let few = h.behind.few in
    let last = last_behind lines 0 l in
    record {
      sound = one_more 0 (length bytes) 0 lines l h.behind.sound (omega (arith, size, some, e)) (omega (arith, e)) (omega (arith, size, few, e)) h.rises;
      size = omega (arith, last, e);
      few = omega arith;
    }

-- a byte more of a line
pub byte_more : (bytes more : List ℕ) (lines : List Line) (packet count next : ℕ) → IsInLine bytes lines packet count → length more ≡ length bytes + 1
    → next ≡ count + 1 → next ≤ 4096 → IsInLine more lines packet next
byte_more bytes more lines packet count next h size is few =
    let old = h.behind.size in
    record {
      behind = record {
        sound = wider 0 (length bytes) (length more) 0 lines (omega (arith, size)) h.behind.sound;
        size = omega (arith, size, old, is);
        few = few;
      };
      rises = h.rises;
    }
