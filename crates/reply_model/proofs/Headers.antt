-- A reply is empty, or its header has its length and its request: `headed` is the main lemma, which follows from the same for a reply with
-- data (`with_data`) and for the reply with an error (`with_error`).
use Rattle.std.proofs.Common.{◌≡◌, ◌∙◌, sym, ap, ℕ, ◌+◌, ◌-◌, ◌^◌, ◌⊎◌, inl, inr, List, [], ◌++◌, length, Bool, true, false, Option, Some, None, refl, arith, length-append}
use Rattle.std.proofs.lemmas.List.{append-nil}
use Rattle.std.specs.Option.{option_map_or}
use Rattle.fuse_wire.specs.declared.errno.Errno.{Errno}
use Rattle.fuse_wire.specs.Requests.{Asked}
use Rattle.fuse_wire.specs.Structures.{u32, u64, errno_number}
use Rattle.fuse_wire.specs.Replies.{reply_head, reply_with, error_reply}
use Rattle.stack_model.specs.Listing.{Stacked}
use Rattle.reply_model.specs.declared.session.Session.{Session}
use Rattle.reply_model.specs.Sessions.{agreement_of}
use Rattle.reply_model.specs.Refusals.{refusal}
use Rattle.reply_model.specs.Replies.{is_silent, answer, reply}
use Rattle.reply_model.specs.Laws.{IsReplyTo}

length-u32 : (n : ℕ) → length (u32 n) ≡ 4
unfolding u32
length-u32 n = refl

length-u64 : (n : ℕ) → length (u64 n) ≡ 8
unfolding u64
length-u64 n = refl

length-header : (n e unique : ℕ) (bytes : List ℕ) → length (u32 n ++ u32 e ++ u64 unique ++ bytes) ≡ 16 + length bytes
length-header n e unique bytes =
    length-append (u32 n ++ u32 e ++ u64 unique) bytes
    ∙ ap (λ k. k + length bytes) (length-append (u32 n ++ u32 e) (u64 unique)
    ∙ ap (λ k. k + length (u64 unique)) (length-append (u32 n) (u32 e)))
    ∙ (let a = length-u32 n in let b = length-u32 e in let c = length-u64 unique in omega arith)

with_data : (unique : ℕ) (bytes : List ℕ) → IsReplyTo unique (reply_with unique bytes)
unfolding reply_with reply_head
with_data unique bytes = record {
  error = 0;
  rest = bytes;
  is = ap
      (λ n. u32 n ++ u32 0 ++ u64 unique ++ bytes) (sym (length-header (16 + length bytes) 0 unique bytes));
}

with_error : (unique : ℕ) (errno : Errno) → IsReplyTo unique (error_reply unique errno)
unfolding error_reply
with_error unique errno =
    let e = 2 ^ 32 - errno_number errno in
    let l : length (u32 16 ++ u32 e ++ u64 unique) ≡ 16 = ap length (sym (append-nil (u32 16 ++ u32 e ++ u64 unique)))
    ∙ length-header 16 e unique [] in
    record { error = e; rest = []; is = ap (λ n. u32 n ++ u32 e ++ u64 unique) (sym l) ∙ sym (append-nil _) }

-- a reply is empty, or begins with its own length and has its request's unique
pub headed : (stack : Stacked) (s : Session) (q : Asked) →
    (reply stack s q ≡ []) ⊎ IsReplyTo q.unique (reply stack s q)
headed stack s q = silent (is_silent q.op) refl
  where
    refused : (o : Option Errno)
        → IsReplyTo q.unique (option_map_or (error_reply q.unique) o
        (reply_with q.unique (answer stack (agreement_of s) q.node q.op)))
    refused None = with_data q.unique (answer stack (agreement_of s) q.node q.op)
    refused (Some errno) = with_error q.unique errno

    silent : (b : Bool) → is_silent q.op ≡ b → (reply stack s q ≡ []) ⊎ IsReplyTo q.unique (reply stack s q)
    silent true e = inl (rw e refl)
    silent false e = inr (rw e (refused (refusal stack s q.node q.op)))
