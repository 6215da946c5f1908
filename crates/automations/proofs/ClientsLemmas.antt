-- What a take of whole messages gives.
use Rattle.std.proofs.Common.{◌≡◌, ℕ, List, [], ◌∷◌, ◌++◌, refl, ap, sym, ◌∙◌, append-nil}
use Rattle.std.proofs.lemmas.List.Elements.{All-cons, All-nil}
use Rattle.chain_engine.specs.Automation.{piece, taken}
use Rattle.automations.specs.Clients.{IsMessage, is_piece, ClientsExchange}

-- a piece of what was to be given yet
pub gives_on : (front bs rest : List ℕ) → front ≡ bs ++ rest → ClientsExchange front (taken (piece bs) ∷ []) rest
gives_on front bs rest split = record {
  messages = [];
  are_messages = All-nil IsMessage;
  gives = append-nil front ∙ split ∙ ap (λ l. l ++ rest) (sym (append-nil bs));
  pieces = All-cons is_piece (piece bs) [] tt (All-nil is_piece);
  taken = refl;
}

-- the first piece of a message
pub gives_first : (message bs rest : List ℕ) → IsMessage message → message ≡ bs ++ rest → ClientsExchange [] (taken (piece bs) ∷ []) rest
gives_first message bs rest whole split = record {
  messages = message ∷ [];
  are_messages = All-cons IsMessage message [] whole (All-nil IsMessage);
  gives = append-nil message ∙ split ∙ ap (λ l. l ++ rest) (sym (append-nil bs));
  pieces = All-cons is_piece (piece bs) [] tt (All-nil is_piece);
  taken = refl;
}
