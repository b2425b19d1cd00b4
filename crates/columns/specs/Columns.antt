-- The work space, sixteen columns of m numbers: its cells, entry i of column c at c * m + i, and stores; what the columns hold; limits.
-- Assumes nothing.
use Rattle.std.specs.Prelude.{ℕ, ◌+◌, ◌*◌, List, get_or, set}

unfoldable pub cell : List ℕ → ℕ → ℕ → ℕ → ℕ
cell w m c i = get_or w (c * m + i) 0

unfoldable pub store : List ℕ → ℕ → ℕ → ℕ → ℕ → List ℕ
store w m c i x = set w (c * m + i) x

-- columns 1 and 2 as one of 2 * m entries
unfoldable pub entry : List ℕ → ℕ → ℕ → ℕ
entry w m i = get_or w (m + i) 0

unfoldable pub store_entry : List ℕ → ℕ → ℕ → ℕ → List ℕ
store_entry w m i x = set w (m + i) x

-- ---- what the columns hold while strengths are computed

-- the links, rising: lower account * HALF + higher account
abbrev pub KEY : ℕ
KEY = 0

-- with the next column: the links at each account, other account * HALF + number of the link
abbrev pub NEAR : ℕ
NEAR = 1

-- the triangles of each link that are left
abbrev pub SUPPORT : ℕ
SUPPORT = 3

abbrev pub STRENGTH : ℕ
STRENGTH = 4

-- the links that are to be removed; at the end of the column, those that are left
abbrev pub QUEUE : ℕ
QUEUE = 5

-- the first column that is not used
abbrev pub FREE : ℕ
FREE = 6

abbrev pub COLUMNS : ℕ
COLUMNS = 16

-- ---- limits

-- two numbers below HALF share an entry: a * HALF + b
abbrev pub HALF : ℕ
HALF = 65536

-- so many links can be numbered there
abbrev pub link_bound : ℕ
link_bound = 65535

-- a number of 32 bits is below
abbrev pub entry_bound : ℕ
entry_bound = 4294967296

-- two for each link
abbrev pub most_entries : ℕ
most_entries = 131070

-- look-ups made for the links of one account
abbrev pub most_of_account : ℕ
most_of_account = 17179344900

-- above every support
abbrev pub no_support : ℕ
no_support = 65536
