-- Document 01's lines to try that it marks P: one table, and one claim about `read`.
use Rattle.std.specs.Prelude.{ℕ, ◌+◌, ◌≡◌, refl, List, [], ◌∷◌, ◌++◌, map, length}
use Prim.Native.String.{String}
use Rattle.grammar.specs.Bytes.{ascii, low, high}
use Rattle.grammar.specs.Env.{Entry, left, put, std, env_bytes}
use Rattle.grammar.specs.World.{Find, no_name, too_deep, no_scratch, no_findings}
use Rattle.grammar.specs.Nodes.{Node, nodes_bytes, find_bytes}
use Rattle.grammar.specs.Nodes.Node.{opens, token, closes}
use Rattle.grammar.specs.Read.{Call, Result, read, handed, refusal}
use Rattle.grammar.specs.Computing.{computing}
use Rattle.grammar.specs.SyntaxKind as SK
use Rattle.grammar.specs.ErrorKind as EK

infixr 20 ◌then◌
-- Words. A token of a line: its kind and its spelling.
pub record Word : Type 0 where
  pub kind : ℕ
  pub text : String

-- the words that the lines are made of
abbrev pub word : ℕ → String → Word
word k s = record { kind = k; text = s }

abbrev pub name : String → Word
name s = word SK.Name s

abbrev pub lit : String → Word
lit s = word SK.IntLit s

abbrev pub semicolon : Word
semicolon = word SK.Semicolon ";"

abbrev pub infix_kw : Word
infix_kw = word SK.InfixKw "infix"

-- the byte of a space
abbrev pub space : ℕ
space = 32

-- the text of a line: a space behind each token, which is no token itself
unfoldable pub spelled : List Word → List ℕ
unfolding ascii
spelled [] = []
spelled (x ∷ xs) = ascii x.text ++ (space ∷ spelled xs)

-- the records of a line whose text starts at `at`
unfoldable pub records : ℕ → List Word → List ℕ
unfolding ascii
records at [] = []
records at (x ∷ xs) =
    let n = length (ascii x.text) in
    x.kind ∷ low at ∷ high at ∷ low n ∷ high n ∷ records (at + n + 1) xs

-- Trees, as what they put before the nodes that follow.
abbrev pub Tree : Type 0
Tree = List Node → List Node

-- the token of kind k and index i
abbrev pub tok : ℕ → ℕ → Tree
tok k i l = token k i ∷ l

abbrev pub empty : Tree
empty l = l

-- a tree and another behind it
abbrev pub ◌then◌ : Tree → Tree → Tree
(s then t) l = s (t l)

-- the node of kind k over a tree
abbrev pub node : ℕ → Tree → Tree
node k t l = opens k ∷ t (closes k ∷ l)

-- the expression of the number that is the token i
abbrev pub int : ℕ → Tree
int i = node SK.SConExp (tok SK.IntLit i)

-- a name as a path
abbrev pub path : ℕ → Tree
path i = node SK.Path (node SK.NameStarEqDot (tok SK.Name i))

-- the InfixExp of the name of kind k and index i
abbrev pub op : Tree → ℕ → ℕ → Tree → Tree
op s k i t = node SK.InfixExp (s then tok k i then t)

-- the Dec of declarations one behind another, each with its `;` where it has one
abbrev pub decs : Tree → Tree
decs t = node SK.Dec (node SK.DecWithTail t)

-- one of them
abbrev pub one : Tree → Tree
one t = node SK.DecInSeq t

abbrev pub semi : ℕ → Tree
semi i = tok SK.Semicolon i

-- the DecWithTail that stands where a list of declarations ends
abbrev pub tail : Tree
tail = node SK.DecWithTail empty

-- the declaration `val x = 1`
abbrev pub val_x : Tree
val_x = node SK.ValDec (tok SK.ValKw 0 then node SK.ValBind (node SK.ConPat (path 1) then node SK.EqExp (tok SK.Eq 2 then int 3)))

-- the declaration of `infix`, a number and a name, from index i on
abbrev pub infix_dec : ℕ → Tree
infix_dec i = node SK.InfixDec (tok SK.InfixKw i then tok SK.IntLit (i + 1) then tok SK.Name (i + 2))

-- a finding without a name: number, detail, place
abbrev pub finding : ℕ → ℕ → ℕ → Find
finding f d p = record { number = f; detail = d; place = p; name = no_name }

-- What a line wants of `read`: the nodes beneath Root, the findings, the final environment; or the refusal.
pub data Want : Type 0 where
  gives : Tree → List Find → List Entry → Want
  refuses : ℕ → Want

-- A line: its words, the depth, the bytes of scratch and of findings that are lent, and what it wants.
pub record Line : Type 0 where
  pub words : List Word
  pub depth : ℕ
  pub scratch : ℕ
  pub finds : ℕ
  pub want : Want

-- the call: plain mode, the standard environment, room for the nodes and the final environment
unfoldable pub call_of : Line → Call
unfolding spelled records env_bytes std
call_of x = record {
  text = spelled x.words;
  toks = records 0 x.words;
  env = env_bytes std;
  depth = x.depth;
  mode = 1;
  scratch = x.scratch;
  nodes = 300;
  finds = x.finds;
  final = 120;
}

-- the whole result that a line wants
unfoldable pub result_of : Line → Result
unfolding call_of nodes_bytes env_bytes find_bytes handed refusal
result_of x =
    elim x.want [
      | gives t fs es ↦ handed (call_of x) (nodes_bytes (node SK.Root t [])) (find_bytes fs) (env_bytes es)
      | refuses k ↦ refusal (call_of x) k
    ]

-- a line: words, depth, scratch, findings, and what it wants
abbrev pub line : List Word → ℕ → ℕ → ℕ → Want → Line
line ws d s f w = record { words = ws; depth = d; scratch = s; finds = f; want = w }

-- a line at depth 100, with 1,000 bytes of scratch and room for two findings
abbrev pub plain : List Word → Want → Line
plain ws w = line ws 100 1000 16 w

-- the standard environment with f infix, of the precedence n
abbrev pub with_f : ℕ → List Entry
with_f n = put (ascii "f") (left n) std

-- The lines, under their numbers in document 01.
unfoldable pub table : List Line
table =
    -- 1. the empty file
    line [] 1 16 0 (gives empty [] std)
    -- 2. ;
    ∷ line (semicolon ∷ []) 6 80 8 (gives (tail then semi 0) (finding EK.Expected EK.Item 0 ∷ []) std)
    ∷ line (semicolon ∷ []) 5 80 8 (refuses too_deep)
    ∷ line (semicolon ∷ []) 6 79 8 (refuses no_scratch)
    -- 3. val x = 1 ; ;
    ∷ plain (word SK.ValKw "val" ∷ name "x" ∷ word SK.Eq "=" ∷ lit "1" ∷ semicolon ∷ semicolon ∷ [])
    (gives (node SK.Dec (node SK.DecWithTail (one (val_x then semi 4)) then semi 5) then tail) [] std)
    -- 4. val x = 1 ; ; ;
    ∷ plain (word SK.ValKw "val" ∷ name "x" ∷ word SK.Eq "=" ∷ lit "1" ∷ semicolon ∷ semicolon ∷ semicolon ∷ [])
    (gives (node SK.Dec (node SK.DecWithTail (one (val_x then semi 4)) then semi 5) then tail then tail then semi 6) (finding EK.Expected EK.Item 6 ∷ []) std)
    -- 5. 1 + 2 * 3
    ∷ plain (lit "1" ∷ name "+" ∷ lit "2" ∷ word SK.Star "*" ∷ lit "3" ∷ [])
    (gives (decs (one (node SK.ExpDec (op (int 0) SK.Name 1 (op (int 2) SK.Star 3 (int 4))))) then tail) [] std)
    -- 6. 1 :: 2 @ 3
    ∷ plain (lit "1" ∷ name "::" ∷ lit "2" ∷ name "@" ∷ lit "3" ∷ [])
    (gives (decs (one (node SK.ExpDec (op (int 0) SK.Name 1 (op (int 2) SK.Name 3 (int 4))))) then tail) [] std)
    -- 7. infix 5 %% ; 1 :: 2 %% 3
    ∷ plain (infix_kw ∷ lit "5" ∷ name "%%" ∷ semicolon ∷ lit "1" ∷ name "::" ∷ lit "2" ∷ name "%%" ∷ lit "3" ∷ [])
    (gives (decs (one (infix_dec 0 then semi 3) then one (node SK.ExpDec (op (int 4) SK.Name 5 (op (int 6) SK.Name 7 (int 8))))) then tail)
    (finding EK.SameFixityDiffAssoc 0 7 ∷ []) (put (ascii "%%") (left 5) std))
    -- 8. infix ~1 f, and infix 65536 f
    ∷ plain (infix_kw ∷ lit "~1" ∷ name "f" ∷ [])
    (gives (decs (one (infix_dec 0)) then tail) (finding EK.NegativeFixity 0 1 ∷ []) (with_f 0))
    ∷ plain (infix_kw ∷ lit "65536" ∷ name "f" ∷ [])
    (gives (decs (one (infix_dec 0)) then tail) (finding EK.InvalidFixity 0 1 ∷ []) (with_f 0))
    -- 9. infix 65535 f, and infix 10 f
    ∷ plain (infix_kw ∷ lit "65535" ∷ name "f" ∷ []) (gives (decs (one (infix_dec 0)) then tail) [] (with_f 65535))
    ∷ plain (infix_kw ∷ lit "10" ∷ name "f" ∷ []) (gives (decs (one (infix_dec 0)) then tail) [] (with_f 10))
    -- 10. infix
    ∷ plain (infix_kw ∷ [])
    (gives (decs (one (node SK.InfixDec (tok SK.InfixKw 0))) then tail) (finding EK.Expected EK.NameOrInt 1 ∷ []) std)
    -- 11. fun f x = x
    ∷ line (word SK.FunKw "fun" ∷ name "f" ∷ name "x" ∷ word SK.Eq "=" ∷ name "x" ∷ []) 100 1000 16
    (gives (decs (one (node SK.FunDec (tok SK.FunKw 0 then node SK.FunBind (node SK.FunBindCase
    (node SK.PrefixFunBindCaseHead (tok SK.Name 1) then node SK.ConPat (path 2) then node SK.EqExp (tok SK.Eq 3 then node SK.PathExp (path 4))))))) then tail) [] std)
    ∷ line (word SK.FunKw "fun" ∷ name "f" ∷ name "x" ∷ word SK.Eq "=" ∷ name "x" ∷ []) 100 1000 15 (refuses no_findings)
    -- 12. local infix 3 f in end ; 1 f 2
    ∷ plain (word SK.LocalKw "local" ∷ infix_kw ∷ lit "3" ∷ name "f" ∷ word SK.InKw "in" ∷ word SK.EndKw "end" ∷ semicolon ∷ lit "1" ∷ name "f" ∷ lit "2" ∷ [])
    (gives (decs (one (node SK.LocalDec (node SK.LocalDecHd (tok SK.LocalKw 0 then decs (one (infix_dec 1)) then tail) then node SK.LocalDecTl (tok SK.InKw 4 then tail) then tok SK.EndKw 5) then semi 6)
    then one (node SK.ExpDec (op (int 7) SK.Name 8 (int 9)))) then tail) [] (with_f 3))
    ∷ []

-- `read` gives on each line what the table says, to the last byte.
pub p_lines : map (λ x. read (call_of x)) table ≡ map result_of table
unfolding computing call_of result_of table
p_lines = refl
