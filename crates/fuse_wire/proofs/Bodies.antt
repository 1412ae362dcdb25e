-- Which bodies are too short, how long replies and rows are, and how many nodes a message forgets. `needs` says for one opcode what
-- `body_sizes` lists for all; the sizes of replies are those of `Sizes`.
use Rattle.std.proofs.Common.{◌≡◌, ◌≢◌, ◌∙◌, sym, ap, ℕ, ◌+◌, ◌/◌, ◌≤◌, List, length, drop, min, Bool, true, false, cond, refl, arith, length-drop}
use Rattle.std.specs.Prelude.{nat_lt}
use Rattle.std.proofs.lemmas.Bool.{lt-ltb, le-ltb}
use Rattle.fuse_wire.specs.declared.limits.TheConstants.{HEADER_SIZE, MAX_MESSAGE_SIZE, MAX_FORGETS}
use Rattle.fuse_wire.specs.Stream.{field}
use Rattle.fuse_wire.specs.Requests.{Op, init, at_node, getattr, open_file, read, opendir, readdir, readdirplus, listxattr, silent, forget, batch_forget, malformed, forgets_of, op_of}
use Rattle.fuse_wire.specs.Laws.{Needs, BodySizes, ReplySizes, RowSizes}
use Rattle.fuse_wire.proofs.Items.{counted}
use Rattle.fuse_wire.proofs.Sizes.{length-version, length-terms, length-entry_out, length-negative_entry_out, length-attr_out, length-open_out, length-getxattr_out, length-statfs_out, length-dirent, length-direntplus}

is_malformed : Op → Bool
is_malformed (malformed opcode) = true
is_malformed _ = false

-- an opcode that asks one thing with a body of n bytes, and else is malformed
needs : (opcode n : ℕ) (op : List ℕ → Op) → ((body : List ℕ) → op_of opcode body ≡ cond (nat_lt (length body) n) (malformed opcode)
    (op body)) → ((body : List ℕ) → op body ≢ malformed opcode) → Needs opcode n
needs opcode n op is good = record {
  short = λ body l. is body ∙ ap (λ b. cond b (malformed opcode) (op body)) (lt-ltb (length body) n l);
  whole = λ body l e. good body (sym (is body ∙ ap (λ b. cond b (malformed opcode) (op body)) (le-ltb (length body) n l)) ∙ e);
}

-- an opcode with a structure is malformed exactly if its body is shorter than that
pub body_sizes : BodySizes
unfolding op_of
body_sizes = record {
  forget = needs 2 8 (λ body. silent (forget (field 8 0 body))) (λ body. refl) (λ body e. absurd (cc));
  getattr = needs 3 16 (λ body. at_node getattr) (λ body. refl) (λ body e. absurd (cc));
  open_file = needs 14 8 (λ body. at_node (open_file (field 4 0 body))) (λ body. refl) (λ body e. absurd (cc));
  read = needs 15 40 (λ body. at_node (read (field 8 8 body) (field 4 16 body))) (λ body. refl) (λ body e. absurd (cc));
  init = needs 26 16 (λ body. init (field 4 0 body) (field 4 4 body) (field 4 8 body) (field 4 12 body)) (λ body. refl)
      (λ body e. absurd (cc));
  opendir = needs 27 8 (λ body. at_node opendir) (λ body. refl) (λ body e. absurd (cc));
  readdir = needs 28 40 (λ body. at_node (readdir (field 8 8 body) (field 4 16 body))) (λ body. refl) (λ body e. absurd (cc));
  batch_forget = needs 42 8 (λ body. silent (batch_forget (forgets_of body))) (λ body. refl) (λ body e. absurd (cc));
  readdirplus = needs 44 40 (λ body. at_node (readdirplus (field 8 8 body) (field 4 16 body))) (λ body. refl) (λ body e. absurd (cc));
  listxattr = needs 23 8 (λ body. at_node (listxattr (field 4 0 body))) (λ body. refl) (λ body e. absurd (cc));
}

-- each structure of a reply has the size of its declaration
pub reply_sizes : ReplySizes
reply_sizes = record {
  version = length-version;
  terms = length-terms;
  entry = length-entry_out;
  negative_entry = length-negative_entry_out;
  attr = length-attr_out;
  open_file = length-open_out;
  getxattr = length-getxattr_out;
  statfs = length-statfs_out;
}

-- a row is as long as its name says: a multiple of 8 bytes, and no more than it needs
pub row_sizes : RowSizes
row_sizes = record {
  dirent = length-dirent;
  plus = length-direntplus;
  whole = λ n. (omega arith);
  holds = λ n. (omega arith);
  tight = λ n. (omega arith);
}

-- a BATCH_FORGET that is no longer than a message may be forgets at most 65,789 nodes
pub few_forgets : (body : List ℕ) → HEADER_SIZE + length body ≤ MAX_MESSAGE_SIZE → length (forgets_of body) ≤ MAX_FORGETS
unfolding forgets_of
few_forgets body l =
    let n = counted (min (field 4 0 body) (length (drop 8 body) / 16)) (drop 8 body) in
    let d = length-drop 8 body in
    omega arith
