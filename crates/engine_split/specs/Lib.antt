pub mod RunBrands
