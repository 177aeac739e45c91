-- Lists of puts.
use Rattle.std.proofs.Common.{◌≡◌, ℕ, List, [], ◌∷◌, ◌++◌, length, ◌∙◌}
use Rattle.guest_mem.specs.Memory.{part}
use Rattle.vt_types.specs.Access.{AccessValue, Put}
use Rattle.memory_port.specs.Puts.{Agree, AllIn, EachPut, Hold}

-- what two facts make of each put
pub each_put-both : (P Q S : ℕ → List ℕ → Type 0) → ((addr : ℕ) (bytes : List ℕ) → P addr bytes → Q addr bytes → S addr bytes)
    → (puts : List AccessValue) → EachPut P puts → EachPut Q puts → EachPut S puts
each_put-both P Q S both [] one other = tt
each_put-both P Q S both (Put addr bytes ∷ more) (p, one) (q, other) = (both addr bytes p q, each_put-both P Q S both more one other)
each_put-both P Q S both (_ ∷ more) (p, one) other = absurd p

pub each_put-weaker : (P Q : ℕ → List ℕ → Type 0) → ((addr : ℕ) (bytes : List ℕ) → P addr bytes → Q addr bytes) → (puts : List AccessValue) → EachPut P puts → EachPut Q puts
each_put-weaker P Q weaker puts each = each_put-both P P Q (λ addr bytes p _. weaker addr bytes p) puts each each

-- two lists of puts
pub each_put-append : (P : ℕ → List ℕ → Type 0) (front back : List AccessValue) → EachPut P front → EachPut P back → EachPut P (front ++ back)
each_put-append P [] back one other = other
each_put-append P (a ∷ front) back (p, one) other = (p, each_put-append P front back one other)

pub each_put-parts : (P : ℕ → List ℕ → Type 0) (front back : List AccessValue) → EachPut P (front ++ back) → EachPut P front × EachPut P back
each_put-parts P [] back each = (tt, each)
each_put-parts P (a ∷ front) back (p, each) = let (one, other) = each_put-parts P front back each in ((p, one), other)

-- locations of one kind are of a wider one
pub all_in-weaker : (location wider : ℕ → ℕ → Type 0) → ((addr count : ℕ) → location addr count → wider addr count) → (puts : List AccessValue) → AllIn location puts → AllIn wider puts
all_in-weaker location wider weaker puts all =
    each_put-weaker (λ addr bytes. location addr (length bytes)) (λ addr bytes. wider addr (length bytes)) (λ addr bytes here. weaker addr (length bytes) here) puts all

pub all_in-append : (location : ℕ → ℕ → Type 0) (front back : List AccessValue) → AllIn location front → AllIn location back → AllIn location (front ++ back)
all_in-append location front back one other = each_put-append (λ addr bytes. location addr (length bytes)) front back one other

-- what stands of both lists stands of each, and the other way round
pub hold-append : (front back : List AccessValue) (mem : List ℕ) → Hold front mem → Hold back mem → Hold (front ++ back) mem
hold-append front back mem one other = each_put-append (λ addr bytes. part mem addr (length bytes) ≡ bytes) front back one other

pub hold-parts : (front back : List AccessValue) (mem : List ℕ) → Hold (front ++ back) mem → Hold front mem × Hold back mem
hold-parts front back mem holds = each_put-parts (λ addr bytes. part mem addr (length bytes) ≡ bytes) front back holds

-- what stands in memory stands where it is the same in these locations
pub hold-same : (location : ℕ → ℕ → Type 0) (mem mem2 : List ℕ) → Agree location mem mem2 → (puts : List AccessValue) → AllIn location puts → Hold puts mem → Hold puts mem2
hold-same location mem mem2 same puts all holds =
    each_put-both (λ addr bytes. location addr (length bytes)) (λ addr bytes. part mem addr (length bytes) ≡ bytes) (λ addr bytes. part mem2 addr (length bytes) ≡ bytes)
    (λ addr bytes here is. same addr (length bytes) here ∙ is) puts all holds
