-- What each element holds, in order (RULES R3.4). Assumes nothing.
use Rattle.std.specs.Prelude.{List, [], ◌∷◌, ℕ, ◌+◌, ◌-◌, ltb, get_or, if◌then◌else◌}
pub use Rattle.event.specs.Event.{name_count}
use Rattle.lent.specs.Bytes.{one_of}

-- one of these kinds; [one of them]; any number of them; and chain (9 ∷ 10 ∷ []) is [9 [10]]
pub data Item : Type 0 where
  one opt any chain : List ℕ → Item
  deriving Discrete as Item-discrete

-- one or more of them
abbrev pub some : List ℕ → List Item
some ks = one ks ∷ any ks ∷ []

abbrev pub flow : List ℕ
flow = 12 ∷ 13 ∷ 16 ∷ 19 ∷ 20 ∷ 21 ∷ 22 ∷ 27 ∷ 28 ∷ 35 ∷ 53 ∷ 57 ∷ 63 ∷ []

abbrev pub inline : List ℕ
inline = 5 ∷ 6 ∷ 7 ∷ 33 ∷ 37 ∷ 39 ∷ 40 ∷ 41 ∷ 42 ∷ 43 ∷ 44 ∷ 45 ∷ 46 ∷ 62 ∷ []

abbrev pub plain : List ℕ
plain = 5 ∷ 6 ∷ 7 ∷ []

-- A kind is a name, or one of four behind the names, which name the same element in another place: an item of an unordered list,
abbrev pub bullet_item : ℕ
bullet_item = name_count

-- its prefix,
abbrev pub bullet_prefix : ℕ
bullet_prefix = name_count + 1

-- a second fence,
abbrev pub second_fence : ℕ
second_fence = name_count + 2

-- and the label of a footnote call
abbrev pub call_label : ℕ
call_label = name_count + 3

abbrev pub kind_count : ℕ
kind_count = name_count + 4

-- the names of these four
abbrev pub second_names : List ℕ
second_names = 23 ∷ 24 ∷ 29 ∷ 47 ∷ []

abbrev pub name_of : ℕ → ℕ
name_of k = if ltb k name_count then k else get_or second_names (k - name_count) 0

pub record Rule : Type 0 where
  pub kinds : List ℕ
  pub holds : List Item

abbrev pub rule : List ℕ → List Item → Rule
rule ks is = record { kinds = ks; holds = is }

-- the whole list
abbrev pub whole : List Item
whole = any flow ∷ []

unfoldable pub rules : List Rule
rules =
    rule (20 ∷ []) (any flow ∷ [])
    ∷ rule (12 ∷ 15 ∷ 17 ∷ 39 ∷ 40 ∷ 48 ∷ 61 ∷ []) (any inline ∷ [])
    ∷ rule (30 ∷ 31 ∷ 50 ∷ 51 ∷ 52 ∷ 54 ∷ 55 ∷ 56 ∷ 65 ∷ []) (any plain ∷ [])
    ∷ rule (7 ∷ []) (one (8 ∷ []) ∷ chain (9 ∷ 10 ∷ []) ∷ one (11 ∷ []) ∷ [])
    ∷ rule (13 ∷ []) (one (14 ∷ []) ∷ opt (15 ∷ []) ∷ opt (14 ∷ []) ∷ [])
    ∷ rule (16 ∷ []) (one (17 ∷ []) ∷ one (18 ∷ []) ∷ [])
    ∷ rule (21 ∷ []) (some (23 ∷ []))
    ∷ rule (22 ∷ []) (some (bullet_item ∷ []))
    ∷ rule (23 ∷ []) (one (24 ∷ []) ∷ any flow ∷ [])
    ∷ rule (bullet_item ∷ []) (one (bullet_prefix ∷ []) ∷ any flow ∷ [])
    ∷ rule (24 ∷ []) (one (26 ∷ []) ∷ one (25 ∷ []) ∷ [])
    ∷ rule (bullet_prefix ∷ []) (one (25 ∷ []) ∷ [])
    ∷ rule (27 ∷ []) (any (32 ∷ []) ∷ [])
    ∷ rule (28 ∷ []) (one (29 ∷ []) ∷ any (32 ∷ []) ∷ opt (second_fence ∷ []) ∷ [])
    ∷ rule (29 ∷ []) (opt (30 ∷ []) ∷ opt (31 ∷ []) ∷ [])
    ∷ rule (second_fence ∷ []) []
    ∷ rule (33 ∷ []) (any (34 ∷ []) ∷ [])
    ∷ rule (35 ∷ []) (any (36 ∷ []) ∷ [])
    ∷ rule (37 ∷ []) (any (38 ∷ []) ∷ [])
    ∷ rule (45 ∷ 46 ∷ []) (one (47 ∷ []) ∷ opt (49 ∷ 52 ∷ []) ∷ [])
    ∷ rule (62 ∷ []) (one (call_label ∷ []) ∷ [])
    ∷ rule (47 ∷ []) (opt (48 ∷ []) ∷ [])
    ∷ rule (call_label ∷ []) (one (48 ∷ []) ∷ [])
    ∷ rule (49 ∷ []) (opt (50 ∷ []) ∷ opt (51 ∷ []) ∷ [])
    ∷ rule (53 ∷ []) (one (54 ∷ []) ∷ opt (55 ∷ []) ∷ opt (56 ∷ []) ∷ [])
    ∷ rule (57 ∷ []) (one (58 ∷ []) ∷ opt (59 ∷ []) ∷ [])
    ∷ rule (58 ∷ []) (one (60 ∷ []) ∷ [])
    ∷ rule (59 ∷ []) (some (60 ∷ []))
    ∷ rule (60 ∷ []) (any (61 ∷ []) ∷ [])
    ∷ rule (63 ∷ []) (one (64 ∷ []) ∷ any flow ∷ [])
    ∷ rule (64 ∷ []) (one (65 ∷ []) ∷ [])
    ∷ []

-- all others hold nothing
abbrev pub holds_by : List Rule → ℕ → List Item
holds_by [] k = []
holds_by (r ∷ rs) k = if one_of r.kinds k then r.holds else holds_by rs k

unfoldable pub holds : ℕ → List Item
unfolding rules
holds k = holds_by rules k
