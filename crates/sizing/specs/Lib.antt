pub mod Float
