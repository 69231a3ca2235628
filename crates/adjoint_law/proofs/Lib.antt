pub mod AdjointProduct
