use Rattle.std.proofs.Common.{◌≡◌, ◌==◌, ℕ, ◌+◌, ◌%◌, List, [], ◌∷◌, Bool, true, false, not, ◌&&◌, refl, if◌then◌else◌, Option, Some, None}
use Rattle.ts_packet.specs.declared.follower.Last.{Last}
use Rattle.ts_packet.specs.declared.follower.Mark.{Mark}
use Rattle.ts_packet.specs.Fields.{number, payload_on, carries_as, alike}
use Rattle.ts_packet.specs.Duplicates.{repeats, repeats_last, last_of, follows_on, is_gap}
use Rattle.ts_packet.specs.Following.{Marks}

-- what a test decides for both
both : (b : Bool) (pid : ℕ) (p : List ℕ) (l : Last) (past : List (List ℕ)) → repeats pid p past ≡ repeats_last p (last_of pid past)
    → (if b then (alike l.packet p && not l.is_repeat) else repeats pid p past) ≡ repeats_last p (if b then Some l else last_of pid past)
both true pid p l past h = refl
both false pid p l past h = h

-- the walk over the past is what the last one says
pub walk_is_last : (pid : ℕ) (p : List ℕ) (past : List (List ℕ)) → repeats pid p past ≡ repeats_last p (last_of pid past)
walk_is_last pid p [] = refl
walk_is_last pid p (q ∷ past) = both (payload_on pid q) pid p (record { packet = q; is_repeat = repeats pid q past }) past (walk_is_last pid p past)

-- what is remembered of the last payload packet, and what is kept of it, say whether a packet repeats it
pub said : (m : Mark) (kept p : List ℕ) (last : Option Last) → Marks (Some m) kept last → ((m.counter == number p) && carries_as kept p) && not m.is_repeat ≡ repeats_last p last
unfolding alike
said m kept p None h = absurd h
said m kept p (Some l) h = rw (h.0, h.1, h.2 p) refl

pub unsaid : (kept p : List ℕ) (last : Option Last) → Marks None kept last → false ≡ repeats_last p last
unsaid kept p None h = refl
unsaid kept p (Some l) h = absurd h

-- and whether it is one past it
pub goes_on : (m : Mark) (kept p : List ℕ) (last : Option Last) → Marks (Some m) kept last → (number p == (m.counter + 1) % 16) ≡ follows_on p last
goes_on m kept p None h = absurd h
goes_on m kept p (Some l) h = rw h.0 refl

pub begins : (kept p : List ℕ) (last : Option Last) → Marks None kept last → true ≡ follows_on p last
begins kept p None h = refl
begins kept p (Some l) h = absurd h

-- ---- gaps

pub no_gap : (pid : ℕ) (p : List ℕ) (past : List (List ℕ)) → payload_on pid p ≡ true → repeats pid p past ≡ true → false ≡ is_gap pid p past
no_gap pid p past y r = rw (y, r) refl

pub gap_is : (pid : ℕ) (p : List ℕ) (past : List (List ℕ)) (f : Bool) → payload_on pid p ≡ true → repeats pid p past ≡ false → f ≡ follows_on p (last_of pid past) → not f ≡ is_gap pid p past
gap_is pid p past f y r e = rw (y, r, ← e) refl
