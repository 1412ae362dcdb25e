-- What a sound image keeps, said of its accessible bytes: as no header breaks a rule, each header
-- that the image leads to lies in it, with a name that is ended, and the chain of a directory comes
-- to no header twice (`good`).
use Rattle.std.proofs.Common.{◌≡◌, ◌≢◌, sym, ap, subst, ℕ, zero, suc, ◌+◌, ◌<◌, ◌≤◌, ◌⊎◌, inl, inr, List, length, Option, Some, None, arith, refl, IsSome, IsNone}
use Rattle.std.proofs.lemmas.Bool.{cases_order}
use Rattle.std.proofs.lemmas.List.{take_all}
use Rattle.romfs_format.specs.declared.head.Kind.{Kind}
use Rattle.romfs_format.specs.declared.head.Kind.TheVariants.{HardLink, Directory, Regular, SymLink, Block, Character, Socket, Fifo}
use Rattle.romfs_format.specs.declared.rule.Profile.TheVariants.{Usual}
use Rattle.romfs_format.specs.declared.rule.Rule.{Rule}
use Rattle.romfs_format.specs.declared.rule.Rule.TheVariants.{NoRoot, Outside, NameOpen, DataOutside, LinkedTwice, LinkLoop, LinkDirectory}
use Rattle.romfs_format.specs.Fields.{image, root, IsInside, kind, name}
use Rattle.romfs_format.specs.Chains.{IsAt, IsOpened, IsSomeMember}
use Rattle.romfs_format.specs.Links.{first_of, next_of, IsReached}
use Rattle.romfs_format.specs.Rules.{BreaksHeader}
use Rattle.romfs_reader.specs.Images.{IsImage}
use Rattle.romfs_reader.proofs.Chain.{IsGood}

-- of accessible bytes all are accessible
pub whole : (a : List ℕ) → IsImage a → image a ≡ a
unfolding image
whole a i = let e = i.full in take_all _ a (omega arith)

is_directory : (k : Kind) → ¬ (k ≢ Directory) → k ≡ Directory
is_directory Directory n = refl
is_directory HardLink n = absurd (n (λ e. cc))
is_directory Regular n = absurd (n (λ e. cc))
is_directory SymLink n = absurd (n (λ e. cc))
is_directory Block n = absurd (n (λ e. cc))
is_directory Character n = absurd (n (λ e. cc))
is_directory Socket n = absurd (n (λ e. cc))
is_directory Fifo n = absurd (n (λ e. cc))

-- a header lies in the image or does not
pub is_inside : (a : List ℕ) (h : ℕ) → IsInside a h ⊎ ¬ IsInside a h
is_inside a h = elim (cases_order h (root a)) [
  | inl e ↦ upper (omega arith)
  | inr (inl l) ↦ inr (λ i. let j = i.0 in omega arith)
  | inr (inr l) ↦ upper (omega arith)
]
  where
    upper : root a ≤ h → IsInside a h ⊎ ¬ IsInside a h
    upper l = elim (cases_order (h + 16) (length a)) [
      | inl e ↦ inl (l, omega arith)
      | inr (inl m) ↦ inl (l, omega arith)
      | inr (inr m) ↦ inr (λ i. let j = i.1 in omega arith)
    ]

some_name : (o : Option (List ℕ)) → ¬ IsNone o → IsSome o
some_name (Some n) f = refl
some_name None f = absurd (f refl)

module _ (a : List ℕ) (i : IsImage a) where
  to_image : (r : Rule) (h : ℕ) → BreaksHeader Usual a r h → BreaksHeader Usual (image a) r h
  to_image r h x = subst (λ y. BreaksHeader Usual y r h) (sym (whole a i)) x

  -- no header that is reached lies outside the image
  pub not_outside : (h : ℕ) → ¬ BreaksHeader Usual a Outside h
  not_outside h x = i.sound.keeps Outside h (to_image Outside h x)

  -- no header that is reached, but the root's, has a name that is not ended
  pub not_open : (h : ℕ) → ¬ BreaksHeader Usual a NameOpen h
  not_open h x = i.sound.keeps NameOpen h (to_image NameOpen h x)

  -- no header that is used has data that end beyond the image
  pub not_data_outside : (h : ℕ) → ¬ BreaksHeader Usual a DataOutside h
  not_data_outside h x = i.sound.keeps DataOutside h (to_image DataOutside h x)

  -- no header is named by two fields, nor is the root's in the chain of another directory
  pub not_twice : (h : ℕ) → ¬ BreaksHeader Usual a LinkedTwice h
  not_twice h x = i.sound.keeps LinkedTwice h (to_image LinkedTwice h x)

  -- no member is a hard link whose chain ends nowhere
  pub not_loop : (h : ℕ) → ¬ BreaksHeader Usual a LinkLoop h
  not_loop h x = i.sound.keeps LinkLoop h (to_image LinkLoop h x)

  -- no member is a hard link whose chain ends at a directory
  pub not_directory : (h : ℕ) → ¬ BreaksHeader Usual a LinkDirectory h
  not_directory h x = i.sound.keeps LinkDirectory h (to_image LinkDirectory h x)

  no_root : ¬ ((length a < root a + 16) ⊎ (kind a (root a) ≢ Directory))
  no_root x = i.sound.keeps NoRoot (root (image a)) (
    subst (λ y. (length y < root y + 16) ⊎ (kind y (root y) ≢ Directory))
        (sym (whole a i)) x,
    refl,
  )

  -- the root's header lies in the image
  pub root_inside : IsInside a (root a)
  root_inside = (
    omega arith,
    elim (cases_order (length a) (root a + 16)) [
      | inl e ↦ omega arith
      | inr (inl l) ↦ absurd (no_root (inl l))
      | inr (inr l) ↦ omega arith
    ],
  )

  -- the root is a directory
  pub root_directory : kind a (root a) ≡ Directory
  root_directory = is_directory (kind a (root a)) (λ n. no_root (inr n))

  -- a header that is reached lies in the image
  pub reached_inside : (h : ℕ) → IsReached a h → IsInside a h
  reached_inside h r = elim (is_inside a h) [ inl y ↦ y | inr n ↦ absurd (not_outside h (r, n)) ]

  -- a header that is reached has a name that is ended, unless it is the root's
  pub reached_named : (h : ℕ) → IsReached a h → h ≢ root a → IsSome (name a h)
  reached_named h r n = some_name (name a h) (λ o. not_open h (r, reached_inside h r, n, o))

  -- each header in the chain of an opened directory is reached
  pub chain_reached : (d n h : ℕ) → IsOpened a d → IsAt a d n h → IsReached a h
  chain_reached d zero h o x = inr (inl (first_of d, (o, x)))
  chain_reached d (suc n) h o x = inr (inl (next_of x.0, (d, record { opened = o; in_chain = (n, x.1) }, x.2)))

  -- each member is reached
  pub member_reached : (h : ℕ) → IsSomeMember a h → IsReached a h
  member_reached h m = chain_reached m.0 m.1.in_chain.0 h m.1.opened m.1.in_chain.1

  one_place : (d : ℕ) → IsOpened a d → (n m h : ℕ) → IsAt a d n h → IsAt a d m h → n ≡ m
  one_place d o zero zero h x y = refl
  one_place d o zero (suc m) h x y = absurd (not_twice h
      (inl (
        first_of d,
        next_of y.0,
        (λ e. cc),
        (o, x),
        (d, record { opened = o; in_chain = (m, y.1) }, y.2),
      )))
  one_place d o (suc n) zero h x y = absurd (not_twice h
      (inl (
        first_of d,
        next_of x.0,
        (λ e. cc),
        (o, y),
        (d, record { opened = o; in_chain = (n, x.1) }, x.2),
      )))
  one_place d o (suc n) (suc m) h x y = elim (cases_order x.0 y.0) [
    | inl e ↦ ap suc (one_place d o n m x.0 x.1 (subst (λ g. IsAt a d m g) (sym e) y.1))
    | inr s ↦ absurd (not_twice h (inl (
      next_of x.0,
      next_of y.0,
      (λ e. let q : x.0 ≡ y.0 = cc in differ x.0 y.0 s q),
      (d, record { opened = o; in_chain = (n, x.1) }, x.2),
      (d, record { opened = o; in_chain = (m, y.1) }, y.2),
    )))
  ]
    where
      differ : (p q : ℕ) → (p < q) ⊎ (q < p) → p ≡ q → ⊥
      differ p q (inl l) e = omega arith
      differ p q (inr l) e = omega arith

  -- the chain of an opened directory stays in the image and comes to no header twice
  pub good : (d : ℕ) → IsOpened a d → IsGood a d
  good d o = record {
    once = λ n m h x y. one_place d o n m h x y;
    inside = λ n h x. reached_inside h (chain_reached d n h o x);
  }
