use Rattle.std.proofs.Common.{◌≡◌, [], List, ℕ, length, refl, subst, ◌∙◌}
use Rattle.std.proofs.lemmas.List.{append-nil}
use Rattle.scte104_codec.specs.declared.framing.Frame.TheVariants.{Whole}
use Rattle.scte104_codec.specs.Framing.{frame_of}
use Rattle.scte104_codec.specs.Grammar.{Single}
use Rattle.scte104_codec.specs.Replies.{reply_message, reply_bytes}
use Rattle.scte104_codec.proofs.SingleLemmas.{single_framed, single_same, single_back}
use Rattle.scte104_codec.proofs.GrammarLemmas.{single_told, other_read}
use Rattle.scte104_codec.proofs.laws.replies_read_back.Goals as goal

pub returns : goal.returns
returns c = λ r fits.
    let message = reply_message r in
    let bytes = reply_bytes r in
    let is : Single bytes r.head message = record { fits = fits; same_head = refl; whole = refl } in
    record {
      whole = subst (λ (xs : List ℕ). frame_of xs ≡ Whole (length bytes)) (append-nil bytes) (single_framed message [] fits);
      fields = single_back message fits;
      only = λ m m-fits e. single_same m message m-fits fits e;
      response = λ a b. single_told bytes r.head message is ∙ other_read r.op r.head r.tail.items a b;
    }
