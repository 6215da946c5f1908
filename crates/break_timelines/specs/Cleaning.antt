-- At which entry pictures a cut is clean.
use Rattle.std.specs.Prelude.{ℕ, List, [], ◌∷◌, ◌++◌, Bool, true, ◌&&◌, nat_lt, nat_le, min, max, Option, None, Some}
use Rattle.std.specs.List.{list_all}
use Rattle.break_choices.specs.declared.pictures.Picture.{Picture}

-- CLEAN is a cut at an entry picture that all pictures before it in the order of the stream are shown before, and all behind it are not
abbrev pub cleaned : List Picture → Picture → List Picture → Picture
cleaned before p behind = record p {
  is_clean = p.is_entry && (list_all (λ (q : Picture). nat_lt q.time p.time) before && list_all (λ (q : Picture). nat_le p.time q.time) behind);
}

-- the pictures of a stream, behind these ones
unfoldable pub cleaned_behind : List Picture → List Picture → List Picture
cleaned_behind before [] = []
cleaned_behind before (p ∷ ps) = cleaned before p ps ∷ cleaned_behind (before ++ p ∷ []) ps

-- ---- the same, from the last picture to the first, and then from the first to the last

abbrev pub lesser_of : Option ℕ → ℕ → ℕ
lesser_of None time = time
lesser_of (Some least) time = min least time

abbrev pub least_time : List Picture → Option ℕ
least_time [] = None
least_time (p ∷ ps) = Some (lesser_of (least_time ps) p.time)

abbrev pub is_up_to : Option ℕ → ℕ → Bool
is_up_to None time = true
is_up_to (Some least) time = nat_le time least

abbrev pub clear_of : Picture → Option ℕ → Picture
clear_of p least = record p { is_clean = p.is_entry && is_up_to least p.time }

abbrev pub from_behind : List Picture → List Picture
from_behind [] = []
from_behind (p ∷ ps) = clear_of p (least_time ps) ∷ from_behind ps

abbrev pub is_past : Option ℕ → ℕ → Bool
is_past None time = true
is_past (Some most) time = nat_lt most time

abbrev pub greater_of : Option ℕ → ℕ → ℕ
greater_of None time = time
greater_of (Some most) time = max most time

abbrev pub still_clear_of : Option ℕ → Picture → Picture
still_clear_of most p = record p { is_clean = p.is_clean && is_past most p.time }

abbrev pub from_before : Option ℕ → List Picture → List Picture
from_before most [] = []
from_before most (p ∷ ps) = still_clear_of most p ∷ from_before (Some (greater_of most p.time)) ps
