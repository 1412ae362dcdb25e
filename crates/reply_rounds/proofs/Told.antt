-- What the elements of a list add, one after another, as a loop over them does it: `told_on` is one more turn, and `told_all` the end. The
-- same for the replies to jobs: `reply_on`, `replies_all`.
use Rattle.std.proofs.Common.{◌≡◌, ◌∙◌, sym, ap, ℕ, ◌+◌, ◌<◌, ◌≤◌, List, [], ◌∷◌, ◌++◌, length, take, take_all, append-nil, append_assoc, subst, refl, get_or}
use Rattle.std.specs.List.{flat_map}
use Rattle.std.proofs.lemmas.Grind.{flat_map-append}
use Rattle.std.proofs.lemmas.List.{take_more}
use Rattle.reply_model.specs.Readings.{Sourced}
use Rattle.reply_rounds.specs.Jobs.{AreReplied, IsReplyTo, Job}

module _ (by : Sourced) where
  -- replies to jobs, and then replies to others, are replies to all
  pub both_replied : (xs ys : List Job) (a b : List ℕ) → AreReplied by xs a → AreReplied by ys b → AreReplied by (xs ++ ys) (a ++ b)
  both_replied [] ys a b p q = subst (AreReplied by ys) (ap (λ v. v ++ b) (sym p)) q
  both_replied (x ∷ xs) ys a b (one, rest, is, told, p) q = (
    one,
    rest ++ b,
    ap (λ v. v ++ b) is ∙ append_assoc one rest b,
    told,
    both_replied xs ys rest b p q,
  )

  -- one more job is replied to
  pub reply_on : (jobs : List Job) (i : ℕ) (job : Job) (so_far more new : List ℕ) → i < length jobs → job ≡ get_or jobs i job
      → AreReplied by (take i jobs) so_far → new ≡ so_far ++ more → IsReplyTo by job more → AreReplied by (take (i + 1) jobs) new
  reply_on jobs i job so_far more new there is told put said =
      subst (λ (js : List Job). AreReplied by js new) (sym (take_more jobs i job there ∙ ap (λ j. take i jobs ++ j ∷ []) (sym is)))
      (subst (AreReplied by (take i jobs ++ job ∷ [])) (sym put)
      (both_replied (take i jobs) (job ∷ []) so_far more told (more, [], sym (append-nil more), said, refl)))

  -- after the last one all are
  pub replies_all : (jobs : List Job) (i : ℕ) (so_far : List ℕ) → length jobs ≤ i → AreReplied by (take i jobs) so_far
      → AreReplied by jobs so_far
  replies_all jobs i so_far past told = subst (λ (js : List Job). AreReplied by js so_far) (take_all i jobs past) told

module _ {X Y : Type 0} (tell : X → List Y) (xs : List X) (i : ℕ) where
  -- what the elements up to the next one add
  pub told_next : (x : X) → i < length xs → x ≡ get_or xs i x → flat_map tell (take (i + 1) xs) ≡ flat_map tell (take i xs) ++ tell x
  told_next x there is =
      ap (flat_map tell) (take_more xs i x there) ∙ flat_map-append tell (take i xs) (get_or xs i x ∷ [])
      ∙ ap (λ (ys : List Y). flat_map tell (take i xs) ++ ys) (append-nil (tell (get_or xs i x)) ∙ ap tell (sym is))

  -- what one more element adds follows what those so far add
  pub told_on : (x : X) (so_far more new : List Y) → i < length xs → x ≡ get_or xs i x → so_far ≡ flat_map tell (take i xs)
      → new ≡ so_far ++ more → more ≡ tell x → new ≡ flat_map tell (take (i + 1) xs)
  told_on x so_far more new there is told put said =
      put ∙ ap (λ (ys : List Y). so_far ++ ys) said ∙ ap (λ (ys : List Y). ys ++ tell x) told ∙ sym (told_next x there is)

  -- after the last one, all have added theirs
  pub told_all : (so_far : List Y) → length xs ≤ i → so_far ≡ flat_map tell (take i xs) → so_far ≡ flat_map tell xs
  told_all so_far past told = told ∙ ap (flat_map tell) (take_all i xs past)
