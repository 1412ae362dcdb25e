-- A chain of hard links that ends at all ends within as many steps as the image has places for
-- headers (`leaves`): in more steps it would come to one header twice. The steps that a walk has
-- left can therefore be counted, and each step leaves fewer (`hops`).
use Rattle.std.proofs.Common.{◌≡◌, ◌≢◌, ap, subst, ℕ, zero, suc, ◌+◌, ◌-◌, ◌*◌, ◌/◌, ◌<◌, ◌≤◌, ◌⊎◌, inl, inr, List, arith, refl}
use Rattle.std.proofs.lemmas.Bool.{cases_order}
use Rattle.romfs_format.specs.declared.head.Kind.{Kind}
use Rattle.romfs_format.specs.declared.head.Kind.TheVariants.{HardLink, Directory, Regular, SymLink, Block, Character, Socket, Fifo}
use Rattle.romfs_format.specs.declared.head.End.TheVariants.{Nowhere}
use Rattle.romfs_format.specs.Fields.{kind}
use Rattle.romfs_format.specs.Links.{IsHardLink, destination, IsFinal, stays, follows, EndsAs}
use Rattle.romfs_reader.specs.Walks.{places}
use Rattle.romfs_reader.proofs.Pigeon.{no_room}
use Rattle.romfs_reader.proofs.Keeps.{is_inside}

-- the chain from h leaves hard links after k steps
pub IsOut : List ℕ → ℕ → ℕ → Type 0
IsOut a zero h = ¬ IsHardLink a h
IsOut a (suc k) h = IsHardLink a h × IsOut a k (destination a h)

-- where k steps lead
hop : List ℕ → ℕ → ℕ → ℕ
hop a zero h = h
hop a (suc k) h = hop a k (destination a h)

kind_dec : (k : Kind) → (k ≡ HardLink) ⊎ (k ≢ HardLink)
kind_dec HardLink = inl refl
kind_dec Directory = inr (λ e. cc)
kind_dec Regular = inr (λ e. cc)
kind_dec SymLink = inr (λ e. cc)
kind_dec Block = inr (λ e. cc)
kind_dec Character = inr (λ e. cc)
kind_dec Socket = inr (λ e. cc)
kind_dec Fifo = inr (λ e. cc)

-- a header is a hard link or is not
pub is_hard : (a : List ℕ) (h : ℕ) → IsHardLink a h ⊎ ¬ IsHardLink a h
is_hard a h = elim (is_inside a h) [
  | inr n ↦ inr (λ l. n l.0)
  | inl i ↦ elim (kind_dec (kind a h)) [ inl e ↦ inl (i, e) | inr n ↦ inr (λ l. n l.1) ]
]

out_of_final : (a : List ℕ) {h e : ℕ} → IsFinal a h e → (k : ℕ) × IsOut a k h
unfolding IsOut
out_of_final a (stays n) = (zero, n)
out_of_final a (follows l f) = let r = out_of_final a f in (suc r.0, (l, r.1))

-- each chain leaves after one number of steps
one_out : (a : List ℕ) (j k h : ℕ) → IsOut a j h → IsOut a k h → j ≡ k
unfolding IsOut
one_out a zero zero h x y = refl
one_out a zero (suc k) h x y = absurd (x y.0)
one_out a (suc j) zero h x y = absurd (y x.0)
one_out a (suc j) (suc k) h x y = ap suc (one_out a j k (destination a h) x.1 y.1)

out_after : (a : List ℕ) (i k h : ℕ) → IsOut a (i + k) h → IsOut a k (hop a i h)
unfolding IsOut hop
out_after a zero k h x = let e : zero + k ≡ k = omega arith in subst (λ n. IsOut a n h) e x
out_after a (suc i) k h x = let e : suc i + k ≡ suc (i + k) = omega arith in
    let y : IsOut a (suc (i + k)) h = subst (λ n. IsOut a n h) e x in out_after a i k (destination a h) y.1

hard_before : (a : List ℕ) (k h : ℕ) → IsOut a (suc k) h → IsHardLink a h
unfolding IsOut
hard_before a k h x = x.0

-- after the first step, headers are at places
landed : (a : List ℕ) (i h : ℕ) → h ≡ h / 16 * 16 → hop a i h ≡ hop a i h / 16 * 16
unfolding hop
landed a zero h e = e
landed a (suc i) h e = landed a i (destination a h) (let d : destination a h ≡ destination a h = refl in omega arith)

few : (a : List ℕ) (k h : ℕ) → h ≡ h / 16 * 16 → IsOut a k h → places a < k → ⊥
few a k h e x l = no_room (places a) (λ i. hop a i h / 16)
    (λ i m.
    let s : k ≡ i + suc (k - i - 1) = omega arith in
    let y = out_after a i (suc (k - i - 1)) h (subst (λ n. IsOut a n h) s x) in
    let b = (hard_before a (k - i - 1) (hop a i h) y).0.1 in omega arith)
    (λ i j m n q.
    let s : k ≡ i + (k - i) = omega arith in
    let t : k ≡ j + (k - j) = omega arith in
    let y = out_after a i (k - i) h (subst (λ n. IsOut a n h) s x) in
    let z = out_after a j (k - j) h (subst (λ n. IsOut a n h) t x) in
    let ei = landed a i h e in
    let ej = landed a j h e in
    let same : hop a j h ≡ hop a i h = omega arith in
    let w = one_out a (k - i) (k - j) (hop a i h) y (subst (λ g. IsOut a (k - j) g) same z) in
    omega arith)

-- the chain from h leaves hard links within n steps
pub record LeavesWithin (a : List ℕ) (n h : ℕ) : Type 0 where
  pub steps : ℕ
  pub few : steps ≤ n
  pub out : IsOut a steps h

stuck : (a : List ℕ) (h k : ℕ) → IsHardLink a h → k ≤ 0 → IsOut a k h → ⊥
unfolding IsOut
stuck a h zero l m x = x l
stuck a h (suc k) l m x = omega arith

now : (a : List ℕ) (h : ℕ) → ¬ IsHardLink a h → IsOut a zero h
unfolding IsOut
now a h n = n

later : (a : List ℕ) (k h : ℕ) → IsHardLink a h → IsOut a k (destination a h) → IsOut a (suc k) h
unfolding IsOut
later a k h l x = (l, x)

after : (a : List ℕ) (n h : ℕ) → IsHardLink a h → LeavesWithin a (suc n) h → LeavesWithin a n (destination a h)
unfolding IsOut
after a n h l w = go w.steps w.few w.out
  where
    go : (k : ℕ) → k ≤ suc n → IsOut a k h → LeavesWithin a n (destination a h)
    go zero m x = absurd (x l)
    go (suc k) m x = record { steps = k; few = omega arith; out = x.1 }

decided : (a : List ℕ) (n h : ℕ) → LeavesWithin a n h ⊎ ¬ LeavesWithin a n h
decided a zero h = elim (is_hard a h) [
  | inl l ↦ inr (λ w. stuck a h w.steps l w.few w.out)
  | inr n ↦ inl (record { steps = zero; few = omega arith; out = now a h n })
]
decided a (suc n) h = elim (is_hard a h) [
  | inr m ↦ inl (record { steps = zero; few = omega arith; out = now a h m })
  | inl l ↦ elim (decided a n (destination a h)) [
    | inl w ↦ inl (record { steps = suc w.steps; few = (let f = w.few in omega arith); out = later a w.steps h l w.out })
    | inr m ↦ inr (λ w. m (after a n h l w))
  ]
]

-- a chain of hard links that ends somewhere ends within as many steps as there are places
pub leaves : (a : List ℕ) (h : ℕ) → h ≡ h / 16 * 16 → ¬ EndsAs a h Nowhere → LeavesWithin a (places a) h
leaves a h e n = elim (decided a (places a) h) [
  | inl w ↦ w
  | inr m ↦ absurd (n (λ g f. let o = out_of_final a f in m (record { steps = o.0; few = small o.0 o.1; out = o.1 })))
]
  where
    small : (k : ℕ) → IsOut a k h → k ≤ places a
    small k x = elim (cases_order (places a) k) [
      | inl q ↦ omega arith
      | inr (inl l) ↦ absurd (few a k h e x l)
      | inr (inr l) ↦ omega arith
    ]

-- one step more on a hard link, otherwise none
counted : {P : Type 0} → P ⊎ ¬ P → ℕ → ℕ
counted (inl l) n = suc n
counted (inr m) n = 0

-- how many steps, of at most n, the chain from h stays on hard links
pub count : List ℕ → ℕ → ℕ → ℕ
count a zero h = 0
count a (suc n) h = counted (is_hard a h) (count a n (destination a h))

count_is : (a : List ℕ) (n k h : ℕ) → IsOut a k h → k ≤ n → count a n h ≡ k
unfolding count counted IsOut
count_is a zero zero h x l = refl
count_is a zero (suc k) h x l = absurd (omega arith)
count_is a (suc n) zero h x l = test (is_hard a h)
  where
    test : (d : IsHardLink a h ⊎ ¬ IsHardLink a h) → counted d (count a n (destination a h)) ≡ 0
    test (inl y) = absurd (x y)
    test (inr m) = refl
count_is a (suc n) (suc k) h x l = test (count_is a n k (destination a h) x.1 (omega arith)) (is_hard a h)
  where
    test : count a n (destination a h) ≡ k → (d : IsHardLink a h ⊎ ¬ IsHardLink a h) → counted d (count a n (destination a h)) ≡ suc k
    test e (inl y) = ap suc e
    test e (inr m) = absurd (m x.0)

step_down : (a : List ℕ) (n k h : ℕ) → IsHardLink a h → IsOut a k h → k ≤ n → LeavesWithin a n (destination a h)
    × (count a n (destination a h) < count a n h)
unfolding IsOut
step_down a n zero h l x f = absurd (x l)
step_down a n (suc k) h l x f =
    let p = count_is a n k (destination a h) x.1 (omega arith) in
    let q = count_is a n (suc k) h x f in
    (record { steps = k; few = omega arith; out = x.1 }, omega arith)

-- after a step along a hard link the chain still ends within n steps, and fewer of them are counted
pub hops : (a : List ℕ) (n h : ℕ) → IsHardLink a h → LeavesWithin a n h → LeavesWithin a n (destination a h)
    × (count a n (destination a h) < count a n h)
hops a n h l w = step_down a n w.steps h l w.out w.few

-- a header that is not a hard link is the end of its chain, within any number of steps
pub left_already : (a : List ℕ) (n h : ℕ) → ¬ IsHardLink a h → LeavesWithin a n h
left_already a n h m = record { steps = zero; few = omega arith; out = now a h m }
