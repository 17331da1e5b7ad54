-- The ranges that numbers, spans and lists keep that were read.
use Rattle.std.proofs.Common.{◌≡◌, ℕ, ◌+◌, ◌*◌, ◌≤◌, ◌&&◌, nat_le, nat_lt, nat_eq, ℤ, pos, negsuc, nat_abs, ◌≤ℤ◌, int_le, Bool, true, false, if◌then◌else◌, List, [], ◌∷◌, ◌++◌, length, Option, Some, None, IfSome, option_map, option_and_then, drop, codes, bytes_eq, Ok, Err, IfOk, refl, arith, length-append}
use mathlib.Core.Logic.{⊎_elim}
use Rattle.std.specs.List.{All, starts_with}
use Rattle.std.proofs.lemmas.Bool.Decides.{nat_tests}
use Rattle.std.proofs.lemmas.Int.{ints}
use Rattle.std.proofs.lemmas.List.Elements.{All-nil, All-push}
use Rattle.std.proofs.lemmas.Result.{IfOk-weaker}
use Rattle.std.specs.Option.{option_or}
use Rattle.toml.specs.Data.{Data, string, integer, Items, no_items, item, Members}
use Rattle.cf_policy.specs.declared.policy.Protocol.{Protocol}
use Rattle.cf_policy.specs.declared.policy.Protocol.TheVariants.{Modbus, Dnp3, Iec104}
use Rattle.cf_policy.specs.declared.policy.Span.{Span}
use Rattle.cf_policy.specs.Within.{IsSpanWithin, highest_address, highest_code, highest_group}
use Rattle.cf_policylang.specs.declared.fields.Kind.{Kind}
use Rattle.cf_policylang.specs.declared.lists.Entries.{Entries}
use Rattle.cf_policylang.specs.declared.lists.Entries.TheVariants as entries
use Rattle.cf_policylang.specs.declared.refusal.Key.{Key}
use Rattle.cf_policylang.specs.declared.refusal.Cause.{Cause}
use Rattle.cf_policylang.specs.declared.refusal.Cause.TheVariants as cause
use Rattle.cf_policylang.specs.declared.refusal.Place.{Place}
use Rattle.cf_policylang.specs.declared.refusal.PolicyRefusal.{PolicyRefusal}
use Rattle.cf_policylang.specs.Fields.{as_text, as_number, as_array_of, count, stated, number_in}
use Rattle.cf_policylang.specs.Lists.{kind_of, address_span, code_span, entry, entries_from, group_end, group_span, listed, named_code_span, spans, spans_if_any, optional_spans}
use Rattle.cf_policylang.specs.Names.{cause_named, code_named, group_named, variation_named, variation_of}
use Rattle.cf_policylang.specs.Numbers.{printed_number, printed_number_in, within, span, span_by, ends, number_span, octet, octets, joined, address, split_at_mark}
use Rattle.cf_policylang.specs.Tested.{Tested, and_then, or_refused}
use Rattle.cf_policylang.proofs.Printed.{within_cases}

-- what follows a test has what the test leaves
pub and_then_if : {A B : Type 0} (P : A → Type 0) (Q : B → Type 0) (t : Tested A) (next : A → Tested B)
    → IfOk t P → ((x : A) → P x → IfOk (next x) Q) → IfOk (and_then t next) Q
and_then_if P Q (Ok x) next h step = step x h
and_then_if P Q (Err r) next h step = tt

-- the same where the test leaves nothing that is needed
pub and_then_any : {A B : Type 0} (Q : B → Type 0) (t : Tested A) (next : A → Tested B)
    → ((x : A) → IfOk (next x) Q) → IfOk (and_then t next) Q
and_then_any Q (Ok x) next step = step x
and_then_any Q (Err r) next step = tt

-- what follows where a test did not refuse
pub unless_if : {A : Type 0} (Q : A → Type 0) (b : Bool) (r : PolicyRefusal) (t : Tested A) → (b ≡ false → IfOk t Q) → IfOk (if b then Err r else t) Q
unless_if Q true r t h = tt
unless_if Q false r t h = h refl

-- what follows where a test passes
pub when_if : {A : Type 0} (Q : A → Type 0) (b : Bool) (t : Tested A) (r : PolicyRefusal) → IfOk t Q → IfOk (if b then t else Err r) Q
when_if Q true t r h = h
when_if Q false t r h = tt

pub or_refused_if : {A : Type 0} (P : A → Type 0) (c : Cause) (k : Key) (p : Place) (o : Option A) → IfSome o P → IfOk (or_refused c k p o) P
or_refused_if P c k p None h = tt
or_refused_if P c k p (Some x) h = h

pub and_then_some : {A B : Type 0} (P : A → Type 0) (Q : B → Type 0) (o : Option A) (next : A → Option B)
    → IfSome o P → ((x : A) → P x → IfSome (next x) Q) → IfSome (option_and_then next o) Q
and_then_some P Q None next h step = tt
and_then_some P Q (Some x) next h step = step x h

and_then_any_some : {A B : Type 0} (Q : B → Type 0) (o : Option A) (next : A → Option B) → ((x : A) → IfSome (next x) Q) → IfSome (option_and_then next o) Q
and_then_any_some Q None next step = tt
and_then_any_some Q (Some x) next step = step x

map_some : {A B : Type 0} (P : A → Type 0) (Q : B → Type 0) (o : Option A) (f : A → B) → IfSome o P → ((x : A) → P x → Q (f x)) → IfSome (option_map f o) Q
map_some P Q None f h step = tt
map_some P Q (Some x) f h step = step x h

-- a value that comes only where a test passes
if_some : {A : Type 0} (P : A → Type 0) (b : Bool) (x : A) → (b ≡ true → P x) → IfSome (if b then Some x else None) P
if_some P true x h = h refl
if_some P false x h = tt

-- one of two values, each of which keeps P
either_some : {A : Type 0} (P : A → Type 0) (b : Bool) (x : A) (o : Option A) → P x → IfSome o P → IfSome (if b then Some x else o) P
either_some P true x o h g = h
either_some P false x o h g = g

some_when : {A : Type 0} (P : A → Type 0) (b : Bool) (o : Option A) → IfSome o P → IfSome (if b then o else None) P
some_when P true o h = h
some_when P false o h = tt

or_some : {A : Type 0} (P : A → Type 0) (o other : Option A) → IfSome o P → IfSome other P → IfSome (option_or o other) P
or_some P None other h g = g
or_some P (Some x) other h g = h

pub record IsNaturalIn (low high n : ℕ) : Type 0 where
  pub above : low ≤ n
  pub below : n ≤ high

pub number_in_if : (low high : ℕ) (z : ℤ) → IfSome (number_in low high z) (IsNaturalIn low high)
number_in_if low high (negsuc n) = tt
number_in_if low high (pos n) =
    if_some (IsNaturalIn low high) (nat_le low n && nat_le n high) n
    (λ e. record { above = grind (arith, nat_tests); below = grind (arith, nat_tests) })

record IsIn (low high z : ℤ) : Type 0 where
  above : low ≤ℤ z
  below : z ≤ℤ high

within_if : (low high z : ℤ) → IfSome (within low high z) (IsIn low high)
within_if low high z = ⊎_elim
    (λ e. rw e tt)
    (λ h. rw h.0 (record { above = h.1; below = h.2 }))
    (within_cases low high z)

printed_number_in_if : (low high : ℤ) (text : List ℕ) → IfSome (printed_number_in low high text) (IsIn low high)
printed_number_in_if low high text = and_then_any_some (IsIn low high) (printed_number text) (within low high) (λ z. within_if low high z)

span_if : (low high a b : ℤ) → IsIn low high a → IsIn low high b → IfSome (span a b) (IsSpanWithin low high)
span_if low high a b i j =
    if_some (IsSpanWithin low high) (int_le a b) (record { low = a; high = b })
    (λ e. record { above = i.above; ordered = grind (arith, ints); below = j.below })

span_by_if : (low high : ℤ) (read : List ℕ → Option ℤ) → ((text : List ℕ) → IfSome (read text) (IsIn low high)) → (text : List ℕ)
    → IfSome (span_by read text) (IsSpanWithin low high)
span_by_if low high read reads text =
    and_then_some (IsIn low high) (IsSpanWithin low high) (read (ends text).0) _ (reads (ends text).0)
    (λ a i. and_then_some (IsIn low high) (IsSpanWithin low high) (read (ends text).1) (span a) (reads (ends text).1)
    (λ b j. span_if low high a b i j))

pub number_span_if : (low high : ℤ) (text : List ℕ) → IfSome (number_span low high text) (IsSpanWithin low high)
number_span_if low high text = span_by_if low high (printed_number_in low high) (printed_number_in_if low high) text

octet_of : (z : ℤ) → IsIn (pos 0) (pos 255) z → nat_abs z ≤ 255
octet_of (pos n) i = let below = i.below in omega (arith, ints)
octet_of (negsuc n) i = let above = i.above in absurd (omega (arith, ints))

octet_if : (text : List ℕ) → IfSome (octet text) (λ n. n ≤ 255)
octet_if text = map_some (IsIn (pos 0) (pos 255)) (λ n. n ≤ 255) (printed_number_in (pos 0) (pos 255) text) nat_abs (printed_number_in_if (pos 0) (pos 255) text) octet_of

octets_if : (a b c d : List ℕ) → IfSome (octets a b c d) (λ n. n ≤ 4294967295)
octets_if a b c d =
    and_then_some (λ n. n ≤ 255) (λ n. n ≤ 4294967295) (octet a) _ (octet_if a)
    (λ i hi. and_then_some (λ n. n ≤ 255) (λ n. n ≤ 4294967295) (octet b) _ (octet_if b)
    (λ j hj. and_then_some (λ n. n ≤ 255) (λ n. n ≤ 4294967295) (octet c) _ (octet_if c)
    (λ k hk. map_some (λ n. n ≤ 255) (λ n. n ≤ 4294967295) (octet d) (joined i j k) (octet_if d)
    (λ l hl. omega arith))))

-- an address has 32 bits
pub address_if : (text : List ℕ) → IfSome (address text) (λ n. n ≤ 4294967295)
address_if text =
    and_then_any_some (λ n. n ≤ 4294967295) (split_at_mark (codes ".") text) _
    (λ p. and_then_any_some (λ n. n ≤ 4294967295) (split_at_mark (codes ".") p.1) _
    (λ q. and_then_any_some (λ n. n ≤ 4294967295) (split_at_mark (codes ".") q.1) _
    (λ r. octets_if p.0 q.0 r.0 r.1)))

is_address : (n : ℕ) → n ≤ 4294967295 → IsIn (pos 0) highest_address (pos n)
is_address n h = record { above = grind (arith, ints); below = grind (arith, ints) }

address_span_if : (k : Key) (p : Place) (text : List ℕ) → IfOk (address_span k p text) (IsSpanWithin (pos 0) highest_address)
address_span_if k p text =
    and_then_if (λ n. n ≤ 4294967295) (IsSpanWithin (pos 0) highest_address) (or_refused cause.BadAddress k p (address (ends text).0)) _
    (or_refused_if (λ n. n ≤ 4294967295) cause.BadAddress k p (address (ends text).0) (address_if (ends text).0))
    (λ a ha. and_then_if (λ n. n ≤ 4294967295) (IsSpanWithin (pos 0) highest_address) (or_refused cause.BadAddress k p (address (ends text).1)) _
    (or_refused_if (λ n. n ≤ 4294967295) cause.BadAddress k p (address (ends text).1) (address_if (ends text).1))
    (λ b hb. or_refused_if (IsSpanWithin (pos 0) highest_address) cause.BadRange k p (span (pos a) (pos b))
    (span_if (pos 0) highest_address (pos a) (pos b) (is_address a ha) (is_address b hb))))

-- a code is a span of one number
pub record IsCode (s : Span) : Type 0 where
  pub range : IsSpanWithin (pos 0) highest_code s
  pub single : s.low ≡ s.high

code_span_if : (z : ℤ) → IfSome (code_span z) IsCode
code_span_if z =
    and_then_some (IsIn (pos 0) highest_code) IsCode (within (pos 0) highest_code z) _ (within_if (pos 0) highest_code z)
    (λ n i. if_some IsCode (int_le n n) (record { low = n; high = n })
    (λ e. record { range = record { above = i.above; ordered = grind (arith, ints); below = i.below }; single = refl }))

-- ---- names

named_code_span_if : (protocol : Protocol) (text : List ℕ) → IfSome (named_code_span protocol text) IsCode
named_code_span_if protocol text = and_then_any_some IsCode (code_named protocol text) _ (λ n. code_span_if (pos n))

abbrev IsGroup : ℕ → Type 0
IsGroup n = n ≤ 65535

variation_of_if : (group variation : List ℕ) → IfSome (variation_of group variation) IsGroup
variation_of_if group variation =
    and_then_some (λ n. n ≤ 255) IsGroup (octet group) _ (octet_if group)
    (λ n i. map_some (λ n. n ≤ 255) IsGroup (octet variation) (λ m. n * 256 + m) (octet_if variation) (λ m j. omega arith))

variation_named_if : (text : List ℕ) → IfSome (variation_named text) IsGroup
variation_named_if text =
    some_when IsGroup (starts_with nat_eq text (codes "g")) (option_and_then (λ p. variation_of p.0 p.1) (split_at_mark (codes "v") (drop 1 text)))
    (and_then_any_some IsGroup (split_at_mark (codes "v") (drop 1 text)) _ (λ p. variation_of_if p.0 p.1))

cause_named_if : (text : List ℕ) → IfSome (cause_named text) IsGroup
cause_named_if text =
    either_some IsGroup (bytes_eq text (codes "request")) 5 _ (omega arith)
    (either_some IsGroup (bytes_eq text (codes "activation")) 6 _ (omega arith)
    (either_some IsGroup (bytes_eq text (codes "deactivation")) 8 None (omega arith) tt))

group_named_if : (protocol : Protocol) (text : List ℕ) → IfSome (group_named protocol text) IsGroup
group_named_if Modbus text = tt
group_named_if Dnp3 text = variation_named_if text
group_named_if Iec104 text = cause_named_if text

is_group : (n : ℕ) → n ≤ 65535 → IsIn (pos 0) highest_group (pos n)
is_group n h = record { above = grind (arith, ints); below = grind (arith, ints) }

group_end_if : (protocol : Protocol) (text : List ℕ) → IfSome (group_end protocol text) (IsIn (pos 0) highest_group)
group_end_if protocol text =
    or_some (IsIn (pos 0) highest_group) (printed_number_in (pos 0) highest_group text) (option_map pos (group_named protocol text))
    (printed_number_in_if (pos 0) highest_group text)
    (map_some IsGroup (IsIn (pos 0) highest_group) (group_named protocol text) pos (group_named_if protocol text) is_group)

-- what each entry of a list keeps
pub address_entry_if : (k : Key) (p : Place) (d : Data) → IfOk (entry entries.Addresses k p d) (IsSpanWithin (pos 0) highest_address)
address_entry_if k p d = and_then_any (IsSpanWithin (pos 0) highest_address) (as_text k p d) _ (λ text. address_span_if k p text)

pub code_entry_if : (k : Key) (p : Place) (d : Data) → IfOk (entry entries.Codes k p d) IsCode
code_entry_if k p d =
    and_then_any IsCode (as_number k p d) _ (λ z. or_refused_if IsCode cause.BadRange k p (code_span z) (code_span_if z))

pub number_entry_if : (low high : ℤ) (k : Key) (p : Place) (d : Data) → IfOk (entry (entries.Numbers low high) k p d) (IsSpanWithin low high)
number_entry_if low high k p d =
    and_then_any (IsSpanWithin low high) (as_text k p d) _
    (λ text. or_refused_if (IsSpanWithin low high) cause.BadRange k p (number_span low high text) (number_span_if low high text))

pub named_code_entry_if : (protocol : Protocol) (k : Key) (p : Place) (d : Data) → IfOk (entry (entries.NamedCodes protocol) k p d) IsCode
named_code_entry_if protocol k p (integer z) = or_refused_if IsCode cause.BadRange k p (code_span z) (code_span_if z)
named_code_entry_if protocol k p (string text) =
    or_refused_if IsCode cause.BadRange k p (named_code_span protocol text) (named_code_span_if protocol text)
named_code_entry_if protocol k p d = tt

pub group_entry_if : (protocol : Protocol) (k : Key) (p : Place) (d : Data)
    → IfOk (entry (entries.NamedGroups protocol) k p d) (IsSpanWithin (pos 0) highest_group)
group_entry_if protocol k p d =
    and_then_any (IsSpanWithin (pos 0) highest_group) (as_text k p d) _
    (λ text. or_refused_if (IsSpanWithin (pos 0) highest_group) cause.BadRange k p (group_span protocol text)
    (span_by_if (pos 0) highest_group (group_end protocol) (group_end_if protocol) text))

-- a list of spans that keep P, of at most 64, and of one at least where it is stated
pub record AreRead (P : Span → Type 0) (least : ℕ) (ss : List Span) : Type 0 where
  pub count : length ss ≤ 64
  pub some : least ≤ length ss
  pub each : All P ss

-- the entries of a list as written: one at least and 64 at most
record IsListed (ds : Items) : Type 0 where
  some : 1 ≤ count ds
  few : count ds ≤ 64

listed_if : (kind : Kind) (k : Key) (p : Place) (d : Data) → IfOk (listed kind k p d) IsListed
listed_if kind k p d =
    and_then_any IsListed (as_array_of kind k p d) _
    (λ ds. unless_if IsListed (nat_eq (count ds) 0) _ _
    (λ some. unless_if IsListed (nat_lt 64 (count ds)) _ _
    (λ short. record { some = grind (arith, nat_tests); few = grind (arith, nat_tests) })))

module _ (P : Span → Type 0) (e : Entries) (k : Key) (p : Place) (keeps : (d : Data) → IfOk (entry e k p d) P) where
  entries_from_if : (ds : Items) (seen : List Span) → All P seen
      → IfOk (entries_from e k p ds seen) (λ ss. All P ss × (length ss ≡ length seen + count ds))
  entries_from_if no_items seen h = (h, omega arith)
  entries_from_if (item d ds) seen h =
      and_then_if P (λ ss. All P ss × (length ss ≡ length seen + count (item d ds))) (entry e k p d) _ (keeps d)
      (λ s hs. IfOk-weaker (entries_from e k p ds (seen ++ s ∷ [])) _ _
      (λ ss g. (g.0, omega (arith, g.1, length-append seen (s ∷ []))))
      (entries_from_if ds (seen ++ s ∷ []) (All-push P seen s h hs)))

  pub spans_if : (d : Data) → IfOk (spans e k p d) (AreRead P 1)
  spans_if d =
      and_then_if IsListed (AreRead P 1) (listed (kind_of e) k p d) _ (listed_if (kind_of e) k p d)
      (λ ds h. IfOk-weaker (entries_from e k p ds []) _ (AreRead P 1)
      (λ ss g. let long = g.1 in let some = h.some in let few = h.few in record { count = omega arith; some = omega arith; each = g.0 })
      (entries_from_if ds [] (All-nil P)))

  spans_if_any_if : (o : Option Data) → IfOk (spans_if_any e k p o) (AreRead P 0)
  spans_if_any_if None = record { count = omega arith; some = omega arith; each = All-nil P }
  spans_if_any_if (Some d) =
      IfOk-weaker (spans e k p d) (AreRead P 1) (AreRead P 0)
      (λ ss h. record { count = h.count; some = omega arith; each = h.each })
      (spans_if d)

  pub optional_spans_if : (ms : Members) → IfOk (optional_spans e k p ms) (AreRead P 0)
  optional_spans_if ms = spans_if_any_if (stated k ms)
