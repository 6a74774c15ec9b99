-- Bytes put into a buffer one after another. Assumes nothing.
use Rattle.std.specs.Prelude.{◌≡◌, ℕ, ◌≤◌, List, ◌++◌, length, take, drop}
use Rattle.slip.specs.declared.put.Cursor.{Cursor}

-- what stands before the cursor, and what behind it
abbrev pub done : Cursor → List ℕ
done c = take c.at c.buffer.now

abbrev pub left : Cursor → List ℕ
left c = drop c.at c.buffer.now

abbrev pub HasRoom : Cursor → List ℕ → Type 0
HasRoom c bytes = length bytes ≤ length (left c)

-- the bytes were put, in the same buffer
pub record Wrote (old : Cursor) (bytes : List ℕ) (new : Cursor) : Type 0 where
  pub before : done new ≡ done old ++ bytes
  pub behind : left new ≡ drop (length bytes) (left old)
  pub same : new.buffer.ghost_name ≡ old.buffer.ghost_name
