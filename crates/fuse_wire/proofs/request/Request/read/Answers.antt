-- What was read is what the message requests, field by field.
use Rattle.std.proofs.Common.{◌≡◌, ◌∙◌, ℕ, List}
use Rattle.std.proofs.lemmas.List.{take_rest}
use Rattle.fuse_wire.specs.Requests.{Asked, Op, op_of}
use Rattle.fuse_wire.proofs.request.Request.read.Goals as goal

-- a request of these fields
abbrev asked_with : ℕ → ℕ → Op → Asked
asked_with u n o = record { unique = u; node = n; op = o }

-- requests with the same fields are the same
same_asked : {u u' n n' : ℕ} {o o' : Op} → u ≡ u' → n ≡ n' → o ≡ o' → asked_with u n o ≡ asked_with u' n' o'
same_asked p q r = λ i. asked_with (p i) (q i) (r i)

-- what is asked with an opcode and a body
same_op : {o : Op} {opcode opcode' : ℕ} {body body' : List ℕ} → o ≡ op_of opcode body → opcode ≡ opcode' → body ≡ body'
    → o ≡ op_of opcode' body'
same_op is p q = is ∙ (λ i. op_of (p i) (q i))

pub returns : goal.returns
returns c = same_asked c.wide.ensures c.wide-2.ensures (same_op c.read_op.ensures c.word.ensures (take_rest c.args.message.now 40))
