mod TextForms
